-- Receiving alone empties both lines.
use Rattle.std.proofs.Common.{◌≡◌, ℕ, ◌+◌, ◌<◌, ◌≤◌, not, true, List, ◌++◌, length, replicate, is_ok, Ok, Err, sym, refl, ap, ◌∙◌, subst, arith}
use Rattle.std.proofs.Math.Logic.{∥∥₁_elim}
use Rattle.std.proofs.Props.{props}
use Rattle.std.proofs.lemmas.Bool.{false≢true}
use Rattle.std.proofs.lemmas.List.{length-replicate}
use Rattle.words.specs.declared.kinds.Word.{Word}
use Rattle.supervision.specs.declared.trunk.Config.{Config}
use Rattle.supervision.specs.Moves.{words_of}
use Rattle.supervision.specs.Receiving.{receiving}
use Rattle.agreement.specs.Agreeing.{AreTaken}
use Rattle.agreement.specs.Reading.{read}
use Rattle.agreement.specs.Runs.{trunk}
use Rattle.agreement.specs.Settling as later
use Rattle.agreement.specs.Settling.{Later}
use Rattle.agreement.proofs.Settled.{settles}
use Rattle.interworking.specs.Exchanges.{Exchange, lends}
use Rattle.interworking.specs.Runs.{Reached, Agrees, state}
use Rattle.interworking.specs.Settling.{Receives, none, one_more, into, most_receives}
use Rattle.interworking.specs.Stepping.{Received, Stepped}
use Rattle.interworking.specs.declared.fault.Fault.{Fault}
use Rattle.interworking.specs.declared.fault.Fault.TheVariants.{Refused, Empty, Memory}
use Rattle.interworking.specs.declared.step.Side.{Side}
use Rattle.interworking.specs.declared.step.Side.TheVariants.{Near, Far}
use Rattle.interworking.specs.declared.step.Step.TheVariants.{Receive}
use Rattle.interworking.proofs.Going.{untaken}

-- receives from a state that a run led to are receives of that run
record Along (a b : Exchange) (r : Reached a b) (n : ℕ) (x y : Exchange) : Type 0 where
  near_words : List Word
  far_words : List Word
  near_config : x.config ≡ a.config
  far_config : y.config ≡ b.config
  later : Later a.config.first r.equipment a.config.higher (state a r.near_words) (state b r.far_words) n (state x near_words) (state y far_words)

-- a received message, as the run knows it
receives : (t : Config) (x : Exchange) (into left : List (List ℕ)) (n : ℕ) (after : Exchange) (ws : List Word) → x.config ≡ t → (h : Received (Ok n) x into after left)
    → later.Receives t (state x ws) into (state after (ws ++ words_of x.config h.2.move x.table)) left
receives t x into left n after ws e h = record {
  front = h.0;
  words = replicate 96 0;
  octets = replicate 320 0;
  move = h.2.move;
  stood = h.1;
  taken = subst (λ (c : Config). receiving c (length x.held) h.0 (lends x) ≡ Ok h.2.move) e h.2.answered;
  moved = rw (h.2.moved, ← e) refl;
}

along : (a b : Exchange) (r : Reached a b) (n : ℕ) (x y : Exchange) → Receives a b n x y → Along a b r n x y
along a b r _ _ _ none = record { near_words = r.near_words; far_words = r.far_words; near_config = refl; far_config = refl; later = later.at_once }
along a b r _ _ _ (one_more k told Near u v x y h s) =
    let w = along a b r k u v h in
    let more = words_of u.config s.0.2.move u.table in
    let next = receives (trunk a.config.first r.equipment a.config.higher) u v.line y.line told x w.near_words (w.near_config ∙ r.near_numbers) s.0 in
    record {
      near_words = w.near_words ++ more;
      far_words = w.far_words;
      near_config = ap (λ (z : Exchange). z.config) s.0.2.moved ∙ w.near_config;
      far_config = ap (λ (z : Exchange). z.config) s.1 ∙ w.far_config;
      later = subst (λ (z : Exchange). Later a.config.first r.equipment a.config.higher (state a r.near_words) (state b r.far_words) (k + 1) (state x (w.near_words ++ more)) (state z w.far_words)) (sym s.1)
          (later.near_receives k (state u w.near_words) (state v w.far_words) (state x (w.near_words ++ more)) y.line w.later next);
    }
along a b r _ _ _ (one_more k told Far u v x y h s) =
    let w = along a b r k u v h in
    let more = words_of v.config s.0.2.move v.table in
    let next = receives (trunk a.config.first r.equipment (not a.config.higher)) v u.line x.line told y w.far_words (w.far_config ∙ r.far_numbers) s.0 in
    record {
      near_words = w.near_words;
      far_words = w.far_words ++ more;
      near_config = ap (λ (z : Exchange). z.config) s.1 ∙ w.near_config;
      far_config = ap (λ (z : Exchange). z.config) s.0.2.moved ∙ w.far_config;
      later = subst (λ (z : Exchange). Later a.config.first r.equipment a.config.higher (state a r.near_words) (state b r.far_words) (k + 1) (state z w.near_words) (state y (w.far_words ++ more))) (sym s.1)
          (later.far_receives k (state u w.near_words) (state v w.far_words) (state y (w.far_words ++ more)) x.line w.later next);
    }

pub bounded : (a b x y : Exchange) (n : ℕ) → ∥ Reached a b ∥₁ → Receives a b n x y → n + (length x.line + length y.line) ≤ most_receives a b
bounded a b x y n r h = ∥∥₁_elim r (hlevel props)
    (λ (q : Reached a b).
    let w = along a b q n x y h in
    let all = (settles a.config.first q.equipment a.config.higher).settled (state a q.near_words) (state b q.far_words) q.run in
    all.bounded n (state x w.near_words) (state y w.far_words) w.later)

-- a message that is on a line is not refused
not_refused : (x other : Exchange) (ws : List Word) (after : Exchange) (left : List (List ℕ)) (f : Fault) → AreTaken x.config (state x ws) other.line → 0 < length other.line
    → Received (Err f) x other.line after left → (f ≡ Memory) × (after ≡ x) × (left ≡ other.line)
not_refused x other ws after left (Refused e) t l h =
    let front = h.0.0 in
    let taken : is_ok (receiving x.config (length x.held) front (lends x)) ≡ true =
    (subst (λ (z : List (List ℕ)). AreTaken x.config (state x ws) z) h.0.2 t).0 (replicate 96 0) (replicate 320 0) (full 96) (full 320) in
    absurd (false≢true (sym (ap is_ok h.0.3) ∙ taken))
  where
    full : (n : ℕ) → n ≤ length {A = ℕ} (replicate n 0)
    full n = let e = length-replicate {A = ℕ} n 0 in omega (arith, e)
not_refused x other ws after left Empty t l h = let e : length other.line ≡ 0 = ap length h.0 in absurd (omega (arith, e, l))
not_refused x other ws after left Memory t l h = (refl, h.0, h.1)

-- so only memory may be wanting, and nothing is changed then
pub only_memory : (side : Side) (f : Fault) (x y x' y' : Exchange) → Agrees x y → 0 < length (into side x y) → Stepped side Receive (Err f) x y x' y' → (f ≡ Memory) × (x' ≡ x) × (y' ≡ y)
only_memory Near f x y x' y' p l h = let w = not_refused x y (read x.told) x' y'.line f p.taken.1 l h.0 in (w.0, w.1, untaken y y' h.1 w.2)
only_memory Far f x y x' y' p l h = let w = not_refused y x (read y.told) y' x'.line f p.taken.0 l h.0 in (w.0, untaken x x' h.1 w.2, w.1)
