-- Where an effect does something, and how many places that are.
use Rattle.std.proofs.Common.{◌≡◌, ℕ, zero, suc, ◌+◌, ◌-◌, ◌/◌, ◌%◌, ◌^◌, ◌<◌, ◌≤◌, Bool, true, false, ◌&&◌, eqb, leb, List, sym, refl, ◌∙◌, ⊎_elim, arith}
use Rattle.std.proofs.lemmas.Bool.{and_left, and_right, and_parts, cases_lt, eqb-true, false≢true, le-leb, lt-leb}
use Rattle.status.specs.Bits.{bit_at, set_bits}
use Rattle.supervision.specs.Steps.{named_by, touched, spanned, tally}
use Rattle.supervision.specs.declared.slots.Effect.{Effect}
use Rattle.supervision.specs.declared.slots.Effect.TheVariants.{Marked, Heard, Every, Acknowledged}
use Rattle.supervision.specs.declared.slots.Slots.{Slots}
use Rattle.supervision.proofs.Naming.{covers_below, covers_past, covers_in}
use Rattle.supervision.proofs.Walking.{ones_bit}

spanned_below : (s : Slots) (k : ℕ) → k < s.first.0 → spanned s k ≡ false
spanned_below s k l = and_left (leb s.first.0 k) _ (lt-leb s.first.0 k l)

spanned_past : (s : Slots) (k : ℕ) → s.first.0 + s.group.range.0 < k → spanned s k ≡ false
spanned_past s k l = and_right (leb s.first.0 k) _ (lt-leb (k - s.first.0) s.group.range.0 (omega arith))

pub touched_below : (e : Effect) (s : Slots) (k : ℕ) → k < s.first.0 → touched e s k ≡ false
touched_below (Marked rule) s k l = covers_below s.first.0 s.group.range.0 s.group.status.now k l
touched_below (Heard signal) s k l = covers_below s.first.0 s.group.range.0 s.group.status.now k l
touched_below (Every signal) s k l = spanned_below s k l
touched_below Acknowledged s k l = spanned_below s k l

pub touched_past : (e : Effect) (s : Slots) (k : ℕ) → s.first.0 + s.group.range.0 < k → touched e s k ≡ false
touched_past (Marked rule) s k l = covers_past s.first.0 s.group.range.0 s.group.status.now k l
touched_past (Heard signal) s k l = covers_past s.first.0 s.group.range.0 s.group.status.now k l
touched_past (Every signal) s k l = spanned_past s k l
touched_past Acknowledged s k l = spanned_past s k l

bits_grow : (xs : List ℕ) (d n : ℕ) → set_bits xs n ≤ set_bits xs (n + d)
bits_grow xs zero n = let e : n + 0 ≡ n = omega arith in rw e (omega arith)
bits_grow xs (suc d) n = let e : n + suc d ≡ suc (n + d) = omega arith in let h = bits_grow xs d n in rw e (omega (arith, h))

pub tally_grows : (e : Effect) (s : Slots) (n m : ℕ) → n ≤ m → tally e s n ≤ tally e s m
tally_grows (Marked rule) s n m l = let e : n + (m - n) ≡ m = omega arith in rw e at (bits_grow s.group.status.now (m - n) n)
tally_grows (Heard signal) s n m l = let e : n + (m - n) ≡ m = omega arith in rw e at (bits_grow s.group.status.now (m - n) n)
tally_grows (Every signal) s n m l = l
tally_grows Acknowledged s n m l = l

bit_more : (s : Slots) (n : ℕ) → named_by s (s.first.0 + n) ≡ true → set_bits s.group.status.now n + 1 ≤ set_bits s.group.status.now (n + 1)
bit_more s n h =
    let b = rw (covers_in s.first.0 s.group.range.0 s.group.status.now n) at h in
    let one : bit_at s.group.status.now n ≡ 1 = eqb-true (bit_at s.group.status.now n) 1 (and_parts (leb n s.group.range.0) _ b).1 in
    let e : n + 1 ≡ suc n = omega arith in
    rw (e, one) (omega arith)

-- a circuit that is touched counts
pub tally_more : (e : Effect) (s : Slots) (n : ℕ) → touched e s (s.first.0 + n) ≡ true → tally e s n + 1 ≤ tally e s (n + 1)
tally_more (Marked rule) s n h = bit_more s n h
tally_more (Heard signal) s n h = bit_more s n h
tally_more (Every signal) s n h = omega arith
tally_more Acknowledged s n h = omega arith

-- a bit of 32 that are ones, as far as the range goes, is that of a place of the range
pub spanned_in : (s : Slots) (n j : ℕ) → j < 32 → (leb n s.group.range.0 && eqb (4294967295 / 2 ^ j % 2) 1) ≡ spanned s (s.first.0 + n)
spanned_in s n j l =
    let a : leb s.first.0 (s.first.0 + n) ≡ true = le-leb s.first.0 (s.first.0 + n) (omega arith) in
    let b : s.first.0 + n - s.first.0 ≡ n = omega arith in
    rw (a, b, ones_bit j l) (and_true (leb n s.group.range.0))
  where
    and_true : (x : Bool) → (x && true) ≡ x
    and_true true = refl
    and_true false = refl

-- what is touched is of the range
pub touched_inside : (e : Effect) (s : Slots) (n : ℕ) → touched e s (s.first.0 + n) ≡ true → n ≤ s.group.range.0
touched_inside e s n h = ⊎_elim
    (λ (l : s.group.range.0 < n). absurd (false≢true (sym (touched_past e s (s.first.0 + n) (omega arith)) ∙ h)))
    (λ (l : n ≤ s.group.range.0). l)
    (cases_lt s.group.range.0 n)

pub named_inside : (s : Slots) (n : ℕ) → named_by s (s.first.0 + n) ≡ true → n ≤ s.group.range.0
named_inside s n h = ⊎_elim
    (λ (l : s.group.range.0 < n). absurd (false≢true (sym (covers_past s.first.0 s.group.range.0 s.group.status.now (s.first.0 + n) (omega arith)) ∙ h)))
    (λ (l : n ≤ s.group.range.0). l)
    (cases_lt s.group.range.0 n)
