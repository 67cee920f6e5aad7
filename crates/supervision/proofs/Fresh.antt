-- A trunk newly opened.
use Rattle.std.proofs.Common.{◌≡◌, ℕ, ◌*◌, ◌<◌, ◌≤◌, Bool, false, List, length, refl, ◌∙◌, ⊎_elim, zero-add, arith}
use Rattle.std.proofs.lemmas.List.FromFn.{get_or-map-range_with_len, length-map-range_with_len}
use Rattle.std.proofs.lemmas.List.{get_or_past}
use Rattle.std.proofs.lemmas.Bool.{cases_lt}
use Rattle.circuit.specs.Circuits.{fresh, vacant, is_open}
use Rattle.circuit.specs.declared.record.Circuit.{Circuit}
use Rattle.supervision.specs.Laws.{AllSound, SetIsOpen}
use Rattle.supervision.specs.Trunks.{placed}
use Rattle.supervision.specs.Opening.{equipped_at, open_table, open_set}

open_at : (ws : List ℕ) (k : ℕ) → (b : Bool) × (placed (open_table ws) k ≡ fresh b)
open_at ws k = ⊎_elim
    (λ (l : k < length ws * 32). (equipped_at ws k, get_or-map-range_with_len (λ j. fresh (equipped_at ws j)) 0 (length ws * 32) k k vacant l (zero-add k)))
    (λ (l : length ws * 32 ≤ k). (false, get_or_past (open_table ws) k vacant (rw (length-map-range_with_len (λ j. fresh (equipped_at ws j)) 0 (length ws * 32)) l)))
    (cases_lt k (length ws * 32))

pub open_sound : (ws : List ℕ) → AllSound (open_table ws)
open_sound ws k = let x = open_at ws k in rw x.1 refl

pub open_fresh : (ws : List ℕ) (k : ℕ) → placed (open_table ws) k ≡ fresh (placed (open_table ws) k).equipped
open_fresh ws k = let x = open_at ws k in rw x.1 refl

pub open_set_lem : (room : ℕ) (T : List Circuit) → length T ≤ room → SetIsOpen T (open_set room T)
open_set_lem room T l k = ⊎_elim
    (λ (h : k < room). get_or-map-range_with_len (λ j. is_open (placed T j)) 0 room k k false h (zero-add k))
    (λ (h : room ≤ k).
    get_or_past (open_set room T) k false (rw (length-map-range_with_len (λ j. is_open (placed T j)) 0 room) h)
    ∙ rw (get_or_past T k vacant (omega arith)) refl)
    (cases_lt k room)
