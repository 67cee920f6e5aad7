-- Two ends and two lines: what holds in every state, and that it is kept by all that keeps the laws of an end.
use Rattle.std.proofs.Common.{◌≡◌, ℕ, ◌+◌, ◌<◌, ◌≤◌, Bool, true, false, List, [], ◌∷◌, ◌++◌, map, length, Ok, subst, arith}
use Rattle.status.specs.declared.cic.Cic.{Cic}
use Rattle.message.specs.Encode.{encode}
use Rattle.message.specs.Msg.{Msg}
use Rattle.message.specs.Decode.{decode}
use Rattle.circuit.specs.Circuits.{is_engaged}
use Rattle.circuit.specs.Laws.{Turns}
use Rattle.circuit.specs.declared.record.Circuit.{Circuit}
use Rattle.supervision.specs.declared.trunk.Config.{Config}
use Rattle.supervision.specs.Laws.{about, SetIsOpen}
use Rattle.supervision.specs.Lending.{settled}
use Rattle.supervision.specs.Moves.{Move, step_of, table_of, words_of}
use Rattle.supervision.specs.Trunks.{placed}
use Rattle.supervision.proofs.Settling.{length-settled}
use Rattle.supervision.proofs.Stepping.{length_each}
use Rattle.agreement.specs.Runs.{State, after_move, trunk, with_line}
use Rattle.agreement.proofs.EndLaws.{Kept, Acted, Heard}
use Rattle.agreement.proofs.Event.{event, push, shown}
use Rattle.agreement.proofs.Keeping.{standing_after, turns_after, set_after}
use Rattle.agreement.proofs.Laws.{OwnLaws}
use Rattle.agreement.proofs.Linking.{Link, turned, link_own, link_heard}
use Rattle.agreement.proofs.Octets.{AllOnLine, sent_on_line, seen, line_of, line_append, line_sent}
use Rattle.agreement.proofs.Passing.{Passes, Sends, Each, own_passes}
use Rattle.agreement.proofs.Standing.{Fitting, Standing}
use Rattle.agreement.proofs.Telling.{Legible, legible_append, words_legible}

-- of one end
pub record End (t : Config) (E : ℕ → Bool) (s : State) : Type 0 where
  pub standing : Standing t E s.table
  pub room : length s.table ≤ length s.held
  pub set : SetIsOpen s.table s.held
  pub legible : Legible s.told
  pub turns : (k : ℕ) → k < length s.table → Turns false (about (t.first.0 + k) s.told) (is_engaged (placed s.table k))

-- of both: of each end, of each line as the other end will take it, and of each circuit
pub record Inv (first : Cic) (ws : List ℕ) (x y : Bool) (E : ℕ → Bool) (a b : State) : Type 0 where
  pub end_a : End (trunk first ws x) E a
  pub end_b : End (trunk first ws y) E b
  pub out : AllOnLine (trunk first ws y) E a.line
  pub into : AllOnLine (trunk first ws x) E b.line
  pub link : (k : ℕ) → E k ≡ true → Link (placed a.table k) (placed b.table k) (line_of first.0 k a.line) (line_of first.0 k b.line)

-- the same from the other end
pub swapped : (first : Cic) (ws : List ℕ) (x y : Bool) (E : ℕ → Bool) (a b : State) → Inv first ws x y E a b → Inv first ws y x E b a
swapped first ws x y E a b i = record {
  end_a = i.end_b;
  end_b = i.end_a;
  out = i.into;
  into = i.out;
  link = λ k e. turned (placed a.table k) (placed b.table k) (line_of first.0 k a.line) (line_of first.0 k b.line) (i.link k e);
}

-- what one end sends passes at the other
across : (first : Cic) (ws : List ℕ) (x y : Bool) (E : ℕ → Bool) (ms : List Msg) → Each (Sends (trunk first ws x) E) ms → Each (Passes (trunk first ws y) E) ms
across first ws x y E [] h = tt
across first ws x y E (m ∷ ms) h = (record { addressed = h.0.passes.addressed; allowed = h.0.passes.allowed }, across first ws x y E ms h.1)

-- no CIC of the table passes 4,095
inside : (t : Config) (E : ℕ → Bool) (T : List Circuit) → Fitting t E → Standing t E T → t.first.0 + length T ≤ 4096
inside t E T f st = rw st.size f.last

-- ## They keep what holds

-- the end after a move
end_after : (t : Config) (E : ℕ → Bool) (s : State) (m : Move) → Fitting t E → End t E s → Kept t E s.table m → End t E (after_move t m s)
end_after t E s m f i k =
    let T = s.table in
    let fits = i.room in
    let sized : length (table_of m T) ≡ length T = length_each (step_of m) 0 T in
    let kept : length (settled s.held T (table_of m T)) ≡ length s.held = length-settled s.held T (table_of m T) in
    record {
      standing = standing_after t E T m i.standing k.allowed k.shift;
      room = omega (arith, fits, sized, kept);
      set = set_after t T s.held m k.allowed fits i.set;
      legible = legible_append s.told (words_of t m T) i.legible (words_legible t E m T (inside t E T f i.standing) k.sent);
      turns = turns_after t T m s.told k.allowed i.turns;
    }

-- another line out of an end is nothing to it
end_with : (t : Config) (E : ℕ → Bool) (s : State) (l : List (List ℕ)) → End t E s → End t E (with_line l s)
end_with t E s l i = record { standing = i.standing; room = i.room; set = i.set; legible = i.legible; turns = i.turns }

pub inv_acted : (first : Cic) (ws : List ℕ) (x y : Bool) (E : ℕ → Bool) → Fitting (trunk first ws x) E → (s : State) (into : List (List ℕ)) (m : Move) (b : State)
    → Acted (trunk first ws x) E s.table m
    → Inv first ws x y E s (with_line into b) → Inv first ws x y E (after_move (trunk first ws x) m s) (with_line into b)
inv_acted first ws x y E f s into m b w i =
    let t = trunk first ws x in
    record {
      end_a = end_after t E s m f i.end_a w.kept;
      end_b = i.end_b;
      out = sent_on_line (trunk first ws y) E s.line m.sent i.out (across first ws x y E m.sent w.kept.sent);
      into = i.into;
      link = λ k e.
          rw (line_append first.0 k s.line (map encode m.sent), line_sent t E first.0 k m.sent (own_passes t E m.sent w.kept.sent))
          (link_own (placed s.table k) (placed (table_of m s.table) k) (placed b.table k) (line_of first.0 k s.line) (shown first.0 k m.sent) (line_of first.0 k into)
          (w.own k e) (i.link k e));
    }

pub inv_heard : (first : Cic) (ws : List ℕ) (x y : Bool) (E : ℕ → Bool) → Fitting (trunk first ws x) E → (s : State) (front : List ℕ) (into : List (List ℕ)) (m : Move) (b : State) (msg : Msg)
    → decode front ≡ Ok msg → Heard (trunk first ws x) E s.table msg m
    → Inv first ws x y E s (with_line (front ∷ into) b) → Inv first ws x y E (after_move (trunk first ws x) m s) (with_line into b)
inv_heard first ws x y E f s front into m b msg read w i =
    let t = trunk first ws x in
    record {
      end_a = end_after t E s m f i.end_a w.kept;
      end_b = end_with (trunk first ws y) E (with_line (front ∷ into) b) into i.end_b;
      out = sent_on_line (trunk first ws y) E s.line m.sent i.out (across first ws x y E m.sent w.kept.sent);
      into = i.into.1;
      link = λ k e.
          let c = placed s.table k in
          let d = placed b.table k in
          let out = line_of first.0 k s.line in
          let rest = line_of first.0 k into in
          let ev = event first.0 k msg in
          let before : Link c d out (push ev rest) = subst (λ z. Link c d out (push (seen first.0 k z) rest)) read (i.link k e) in
          rw (line_append first.0 k s.line (map encode m.sent), line_sent t E first.0 k m.sent (own_passes t E m.sent w.kept.sent))
          (link_heard ev c (placed (table_of m s.table) k) d out (shown first.0 k m.sent) rest (w.heard k e) before);
    }

-- a message of the host that the other end accepts, and that is an end's own on each circuit
pub inv_called : (first : Cic) (ws : List ℕ) (x y : Bool) (E : ℕ → Bool) (s : State) (into : List (List ℕ)) (msg : Msg) (b : State)
    → Passes (trunk first ws x) E msg → ((k : ℕ) → E k ≡ true → OwnLaws (placed s.table k) (placed s.table k) (shown first.0 k (msg ∷ [])))
    → Inv first ws x y E s (with_line into b) → Inv first ws x y E (with_line (s.line ++ (encode msg ∷ [])) s) (with_line into b)
inv_called first ws x y E s into msg b p own i =
    let t = trunk first ws x in
    record {
      end_a = end_with t E s (s.line ++ (encode msg ∷ [])) i.end_a;
      end_b = i.end_b;
      out = sent_on_line (trunk first ws y) E s.line (msg ∷ []) i.out (record { addressed = p.addressed; allowed = p.allowed }, tt);
      into = i.into;
      link = λ k e.
          rw (line_append first.0 k s.line (encode msg ∷ []), line_sent t E first.0 k (msg ∷ []) (p, tt))
          (link_own (placed s.table k) (placed s.table k) (placed b.table k) (line_of first.0 k s.line) (shown first.0 k (msg ∷ [])) (line_of first.0 k into)
          (own k e) (i.link k e));
    }
