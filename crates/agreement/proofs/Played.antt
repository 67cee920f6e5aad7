-- What is played from a script is a run.
use Rattle.std.proofs.Common.{◌≡◌, ℕ, Bool, true, false, cond, not, ◌&&◌, leb, List, [], ◌∷◌, ◌++◌, length, replicate, Some, None, Ok, Err, Result, refl}
use Rattle.std.proofs.lemmas.Bool.{false≢true, leb-true, and_parts}
use Rattle.status.specs.declared.cic.Cic.{Cic}
use Rattle.message.specs.Encode.{encode}
use Rattle.message.specs.Msg.{call}
use Rattle.refusal.specs.declared.reasons.Refusal.{Refusal}
use Rattle.supervision.specs.declared.trunk.Config.{Config}
use Rattle.supervision.specs.Answering.{Order, answer, ByPolicy, seize, release as release_order, block, unblock, reset, group_block, group_unblock, group_reset}
use Rattle.supervision.specs.Expiring.{expiring}
use Rattle.supervision.specs.Moves.{Move}
use Rattle.supervision.specs.Orders.{circuit_of}
use Rattle.supervision.specs.Receiving.{as_cic, receiving}
use Rattle.agreement.specs.Playing.{Act, orders, expires, receives, calls, Turn, near_does, far_does, moved_by, in_set, does, play, first_cic, equipment, script, Played}
use Rattle.agreement.specs.Runs.{State, Reaches, opened, near, far, Steps, ordered, expired, received, called, after_move, fresh_state, lends, of_host, trunk, with_line}

by_policy : (held : List Bool) (o : Order) → in_set held o ≡ true → ByPolicy held o
by_policy held (seize body None) h = absurd (false≢true h)
by_policy held (seize body (Some place)) h = h
by_policy held (release_order cic location value) h = tt
by_policy held (block cic) h = tt
by_policy held (unblock cic) h = tt
by_policy held (reset cic) h = tt
by_policy held (group_block kind system mask) h = tt
by_policy held (group_unblock kind system mask) h = tt
by_policy held (group_reset system) h = tt

-- an end that did as a step says, or nothing
move_is : (P : State → List (List ℕ) → Type 0) (t : Config) (r : Result Move Refusal) (s : State) (into left : List (List ℕ))
    → P s into → ((m : Move) → r ≡ Ok m → P (after_move t m s) left) → P (moved_by t r s into left).0 (moved_by t r s into left).1
move_is P t (Err e) s into left same go = same
move_is P t (Ok m) s into left same go = go m refl

either : (P : State → List (List ℕ) → Type 0) (b : Bool) (x y : State × List (List ℕ)) → (b ≡ true → P x.0 x.1) → P y.0 y.1 → P (cond b x y).0 (cond b x y).1
either P true x y h g = h refl
either P false x y h g = g

act_is : (P : State → List (List ℕ) → Type 0) (t : Config) (x : Act) (s : State) (into : List (List ℕ))
    → P s into → ((s' : State) (l : List (List ℕ)) → Steps t s into s' l → P s' l) → P (does t x s into).0 (does t x s into).1
act_is P t (orders o) s into same go =
    let r = answer t (length s.held) o (lends s (replicate 96 0) (replicate 320 0)) in
    either P (in_set s.held o) (moved_by t r s into into) (s, into)
    (λ h. move_is P t r s into into same (λ m e. go (after_move t m s) into (ordered s into (replicate 96 0) (replicate 320 0) o m (by_policy s.held o h) e)))
    same
act_is P t (expires timer n kind) s into same go =
    move_is P t (expiring t (length s.held) timer n kind (lends s (replicate 96 0) (replicate 320 0))) s into into same
    (λ m e. go (after_move t m s) into (expired s into (replicate 96 0) (replicate 320 0) timer n kind m e))
act_is P t receives s [] same go = same
act_is P t receives s (front ∷ into) same go =
    move_is P t (receiving t (length s.held) front (lends s (replicate 96 0) (replicate 320 0))) s (front ∷ into) into same
    (λ m e. go (after_move t m s) into (received s into (replicate 96 0) (replicate 320 0) front m e))
act_is P t (calls c kind body) s into same go =
    let q = (circuit_of t (as_cic c) s.table).equipped in
    either P (of_host kind && (leb 1 (length body) && q)) (record s { line = s.line ++ (encode (call c kind body) ∷ []) }, into) (s, into)
    (λ h.
    let a = and_parts (of_host kind) (leb 1 (length body) && q) h in
    let b = and_parts (leb 1 (length body)) q a.1 in
    go (record s { line = s.line ++ (encode (call c kind body) ∷ []) }) into (called s into c kind body a.0 (leb-true 1 (length body) b.0) b.1))
    same

pub plays : (first : Cic) (ws : List ℕ) (h : Bool) (l : List Turn) (a b : State) → Reaches first ws h a b → Reaches first ws h (play first ws h l a b).0 (play first ws h l a b).1
plays first ws h [] a b r = r
plays first ws h (near_does x ∷ l) a b r =
    let t = trunk first ws h in
    let n = does t x a b.line in
    plays first ws h l n.0 (with_line n.1 b)
    (act_is (λ s i. Reaches first ws h s (with_line i b)) t x a b.line r (λ s i w. near a b s i r w))
plays first ws h (far_does x ∷ l) a b r =
    let t = trunk first ws (not h) in
    let n = does t x b a.line in
    plays first ws h l (with_line n.1 a) n.0
    (act_is (λ s i. Reaches first ws h (with_line i a) s) t x b a.line r (λ s i w. far a b s i r w))

pub played : Played
played = record {
  reached = plays first_cic equipment true script (fresh_state 32 equipment) (fresh_state 32 equipment) (opened 32 32 refl refl);
  lines = (refl, refl);
  near_told = refl;
  far_told = refl;
  hardware = (refl, refl);
  maintenance = (refl, refl);
  talking = (refl, refl);
}
