-- What holds of a table in any state is kept by a move that keeps the laws of an end, and the words told take turns.
use Rattle.std.proofs.Common.{◌≤◌, ◌≡◌, ℕ, ◌+◌, ◌/◌, ◌<◌, Bool, true, false, List, [], ◌∷◌, ◌++◌, map, length, sym, ap, ◌∙◌, subst, arith}
use Rattle.std.proofs.lemmas.List.{length-map}
use Rattle.circuit.specs.Circuits.{is_engaged}
use Rattle.circuit.specs.Laws.{Turns}
use Rattle.circuit.specs.declared.record.Circuit.{Circuit}
use Rattle.words.specs.declared.kinds.Word.{Word}
use Rattle.words.specs.declared.kinds.Word.TheVariants.{Send, Begun, Ended, Alert}
use Rattle.supervision.specs.declared.trunk.Config.{Config}
use Rattle.supervision.specs.Laws.{about, Lawful, SetIsOpen}
use Rattle.supervision.specs.Lending.{lent, carried, settled}
use Rattle.supervision.specs.Moves.{Move, table_of, words_of}
use Rattle.supervision.specs.Trunks.{placed}
use Rattle.supervision.proofs.Keeping.{Allowed, lawful, about-append}
use Rattle.agreement.proofs.EndLaws.{Shift}
use Rattle.agreement.proofs.Standing.{Standing}

-- ## A table after a move

lawful_move : (t : Config) (T : List Circuit) (m : Move) → Allowed m T → Lawful t m (lent T (map (λ c. c.equipped) T) [] []) (carried t m (lent T (map (λ c. c.equipped) T) [] []))
lawful_move t T m h = lawful t m (lent T (map (λ c. c.equipped) T) [] []) (let e : length (map (λ (c : Circuit). c.equipped) T) ≡ length T = length-map T (λ c. c.equipped) in omega (arith, e)) h

pub standing_after : (t : Config) (E : ℕ → Bool) (T : List Circuit) (m : Move) → Standing t E T → Allowed m T → Shift E T m → Standing t E (table_of m T)
standing_after t E T m st a s =
    let w = lawful_move t T m a in
    let f = st.whole.0 in
    record {
      size = w.size ∙ st.size;
      equipment = λ k. w.equipment k ∙ st.equipment k;
      sound = w.sound st.sound;
      empty = λ k e. w.unequipped k (st.equipment k ∙ e) ∙ st.empty k e;
      whole = ((λ sys. s.0 sys (f sys)), λ k e. s.1 k e ∙ ap (s.0 (k / 32)) (st.whole.1 k e));
    }

-- ## Words take turns

pub turns_append : (a b c : Bool) (xs ys : List Word) → Turns a xs b → Turns b ys c → Turns a (xs ++ ys) c
turns_append a b c [] ys h g = subst (λ (x : Bool). Turns x ys c) (sym h) g
turns_append a b c (Send p l ∷ xs) ys h g = turns_append a b c xs ys h g
turns_append a b c (Begun w n ∷ xs) ys h g = (h.0, turns_append true b c xs ys h.1 g)
turns_append a b c (Ended w n ∷ xs) ys h g = (h.0, turns_append false b c xs ys h.1 g)
turns_append a b c (Alert x n ∷ xs) ys h g = turns_append a b c xs ys h g

pub turns_after : (t : Config) (T : List Circuit) (m : Move) (told : List Word) → Allowed m T
    → ((k : ℕ) → k < length T → Turns false (about (t.first.0 + k) told) (is_engaged (placed T k)))
    → (k : ℕ) → k < length (table_of m T) → Turns false (about (t.first.0 + k) (told ++ words_of t m T)) (is_engaged (placed (table_of m T) k))
turns_after t T m told a h k l =
    let w = lawful_move t T m a in
    let i : k < length T = let z = w.size in omega (arith, l, z) in
    rw (about-append (t.first.0 + k) told (words_of t m T))
    (turns_append false (is_engaged (placed T k)) (is_engaged (placed (table_of m T) k)) (about (t.first.0 + k) told) (about (t.first.0 + k) (words_of t m T)) (h k i) (w.turns k i))

-- ## The policy's set

pub set_after : (t : Config) (T : List Circuit) (H : List Bool) (m : Move) → Allowed m T → length T ≤ length H → SetIsOpen T H → SetIsOpen (table_of m T) (settled H T (table_of m T))
set_after t T H m a l s = (lawful t m (lent T H [] []) l a).opens s
