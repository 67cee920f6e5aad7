-- Numbers of 32 bits as statuses are read: made of four octets, and gone over from set bit to set bit.
use Rattle.std.proofs.Common.{◌≡◌, ℕ, zero, suc, ◌+◌, ◌-◌, ◌*◌, ◌/◌, ◌%◌, ◌^◌, ◌<◌, ◌≤◌, Bool, true, false, ◌&&◌, eqb, leb, List, [], ◌∷◌, get_or, sym, refl, ap, ◌∙◌, ⊎_elim, arith}
use mir.Syntax.{w32}
use Rattle.std.proofs.Math.Nat.{pow-suc}
use Rattle.std.proofs.Math.Pow.{pow-lt, pow_mono}
use Rattle.std.proofs.lemmas.Nat.{mod_below, pow_pos, shr-shr, shr_le, shr_below}
use Rattle.std.proofs.lemmas.Nat.Bits.{bit_at-trailing_zeros, bit_at_ones}
use Rattle.std.proofs.lemmas.Bool.{cases_lt, eq-eqb, le-leb, lt-leb}
use Rattle.std.specs.Int.{trailing_zeros}
use Rattle.status.specs.Bits.{bit_at}
use Rattle.supervision.specs.Orders.{status_of}
use Rattle.supervision.proofs.Bits.{low_kept}
use Rattle.supervision.proofs.Masks.{status_bit}

pick : (f : ℕ → ℕ) (i k : ℕ) → k < 4 → get_or (f i ∷ f (i + 1) ∷ f (i + 2) ∷ f (i + 3) ∷ []) k 0 ≡ f (i + k)
pick f i zero l = let e : i + 0 ≡ i = omega arith in rw e refl
pick f i (suc zero) l = refl
pick f i (suc (suc zero)) l = refl
pick f i (suc (suc (suc zero))) l = refl
pick f i (suc (suc (suc (suc k)))) l = absurd (omega arith)

-- four octets of a status, the n-th bit first, as one number
pub word_bit : (xs : List ℕ) (n w j : ℕ) → n % 8 ≡ 0 → j < 32
    → (a b c d : ℕ) → a < 256 → b < 256 → c < 256 → d < 256
    → a ≡ get_or xs (n / 8) 0 → b ≡ get_or xs (n / 8 + 1) 0 → c ≡ get_or xs (n / 8 + 2) 0 → d ≡ get_or xs (n / 8 + 3) 0
    → w ≡ a + b * 256 + c * 65536 + d * 16777216
    → w / 2 ^ j % 2 ≡ bit_at xs (n + j)
word_bit xs n w j start l a b c d la lb lc ld ea eb ec ed e =
    let f = λ (i : ℕ). get_or xs i 0 in
    let low : w % 256 ≡ a = omega (arith, e, la) in
    let second : w / 256 % 256 ≡ b = omega (arith, e, la, lb) in
    let third : w / 65536 % 256 ≡ c = omega (arith, e, la, lb, lc) in
    let fourth : w / 16777216 % 256 ≡ d = omega (arith, e, la, lb, lc, ld) in
    let half : w * 2 / 2 ≡ w = omega arith in
    let status : status_of (w * 2) ≡ f (n / 8) ∷ f (n / 8 + 1) ∷ f (n / 8 + 2) ∷ f (n / 8 + 3) ∷ [] =
    rw (half, low ∙ ea, second ∙ eb, third ∙ ec, fourth ∙ ed) refl in
    let s : 1 + j ≡ j + 1 = omega arith in
    let shifted : w * 2 / 2 ^ (j + 1) ≡ w / 2 ^ j = rw (← s) (sym (shr-shr (w * 2) 1 j) ∙ ap (λ x. x / 2 ^ j) half) in
    let at : n / 8 + j / 8 ≡ (n + j) / 8 = omega (arith, start) in
    let in_octet : j % 8 ≡ (n + j) % 8 = omega (arith, start) in
    sym (ap (λ x. x % 2) shifted) ∙ (sym (status_bit (w * 2) j l) ∙ rw status (rw (pick f (n / 8) (j / 8) (omega arith), at, in_octet) refl))

below_none : (x k : ℕ) → x < 2 ^ k → x / 2 ^ k ≡ 0
below_none x k l = let z : 0 + k ≡ k = omega arith in let h = shr_below x 0 k (rw z l) in omega (arith, h)

-- the bits of a number below the k-th alone
pub cut_bit : (x last n r j : ℕ) → last ≡ r - n → n ≤ r → last < 31 → j < 32
    → eqb (x % (2 * 2 ^ last % 4294967296) / 2 ^ j % 2) 1 ≡ (leb (n + j) r && eqb (x / 2 ^ j % 2) 1)
cut_bit x last n r j e l h m =
    let small : 2 ^ last < 2 ^ 31 = pow-lt h in
    let two : 2 * 2 ^ last % 4294967296 ≡ 2 ^ suc last = let p = pow-suc 2 last in omega (arith, small, p) in
    rw two (⊎_elim
    (λ (q : last < j).
    let far : x % 2 ^ suc last / 2 ^ j ≡ 0 = below_none (x % 2 ^ suc last) j (bound q) in
    rw (far, lt-leb (n + j) r (omega (arith, e, l, q))) refl)
    (λ (q : j ≤ last).
    let d : suc (last - j) + j ≡ suc last = omega arith in
    rw (le-leb (n + j) r (omega (arith, e, l, q))) (ap (λ y. eqb y 1) (rw d at (low_kept x (last - j) j))))
    (cases_lt last j))
  where
    bound : last < j → x % 2 ^ suc last < 2 ^ j
    bound q =
        let up : 2 ^ suc last ≤ 2 ^ j = pow_mono q in
        let b = mod_below x (2 ^ suc last) (pow_pos (suc last)) in
        omega (arith, up, b)

-- nor is a bit past the range one of 32 that are all of it
pub whole_bit : (x n r j : ℕ) → n ≤ r → 31 ≤ r - n → j < 32 → eqb (x / 2 ^ j % 2) 1 ≡ (leb (n + j) r && eqb (x / 2 ^ j % 2) 1)
whole_bit x n r j l h m = rw (le-leb (n + j) r (omega (arith, h))) refl

pub ones_bit : (j : ℕ) → j < 32 → eqb (4294967295 / 2 ^ j % 2) 1 ≡ true
ones_bit j l = ap (λ y. eqb y 1) (bit_at_ones 32 j l)

-- the next set bit of a number whose first d bits were gone over
pub next_bit : (bits d rest : ℕ) → bits < 2 ^ 32 → rest ≡ bits / 2 ^ d → (rest ≡ 0 → ⊥)
    → (d + trailing_zeros w32 rest < 32)
    × (bits / 2 ^ (d + trailing_zeros w32 rest) % 2 ≡ 1)
    × ((i : ℕ) → i < trailing_zeros w32 rest → bits / 2 ^ (d + i) % 2 ≡ 0)
next_bit bits d rest l e z =
    let fits : rest < 2 ^ 32 = let h = shr_le bits d in omega (arith, e, h, l) in
    let h = bit_at-trailing_zeros w32 rest (omega (arith, z)) fits in
    let s = trailing_zeros w32 rest in
    let at = λ (i : ℕ). shr-shr bits d i in
    let one : bits / 2 ^ (d + s) % 2 ≡ 1 = rw (← at s, ← e) h.1 in (
      ⊎_elim (λ (y : d + s < 32). y) (λ (y : 32 ≤ d + s). absurd (past one y)) (cases_lt (d + s) 32),
      one,
      λ i m. rw (← at i, ← e) (h.2 i m),
    )
  where
    past : bits / 2 ^ (d + trailing_zeros w32 rest) % 2 ≡ 1 → 32 ≤ d + trailing_zeros w32 rest → ⊥
    past one y =
        let up : 2 ^ 32 ≤ 2 ^ (d + trailing_zeros w32 rest) = pow_mono y in
        let none : bits / 2 ^ (d + trailing_zeros w32 rest) ≡ 0 = below_none bits (d + trailing_zeros w32 rest) (omega (arith, up, l)) in
        omega (arith, one, none)

-- what is left past it
pub left_bits : (bits d rest s : ℕ) → rest ≡ bits / 2 ^ d → rest / 2 ^ s / 2 ≡ bits / 2 ^ (d + s + 1)
left_bits bits d rest s e = rw (e, shr-shr bits d s) (shr-shr bits (d + s) 1)

-- nothing is left
pub none_left : (bits d : ℕ) → bits / 2 ^ d ≡ 0 → (i : ℕ) → bits / 2 ^ (d + i) % 2 ≡ 0
none_left bits d e i = rw (← shr-shr bits d i, e) (none i)
  where
    none : (i : ℕ) → 0 / 2 ^ i % 2 ≡ 0
    none i = grind arith

-- the next place that is as a test says, by the bits of 32 places from `past` on, and none before it
pub next_place : (p : ℕ → Bool) (bits past n rest : ℕ) → bits < 2 ^ 32 → past ≤ n → rest ≡ bits / 2 ^ (n - past) → (rest ≡ 0 → ⊥)
    → ((j : ℕ) → j < 32 → eqb (bits / 2 ^ j % 2) 1 ≡ p (past + j))
    → (n + trailing_zeros w32 rest < past + 32)
    × (p (n + trailing_zeros w32 rest) ≡ true)
    × ((i : ℕ) → n ≤ i → i < n + trailing_zeros w32 rest → p i ≡ false)
next_place p bits past n rest l a e z h =
    let s = trailing_zeros w32 rest in
    let w = next_bit bits (n - past) rest l e z in
    let at : past + (n - past + s) ≡ n + s = omega (arith, a) in (
      omega (arith, w.0, a),
      rw at at (sym (h (n - past + s) w.0) ∙ eq-eqb (bits / 2 ^ (n - past + s) % 2) 1 w.1),
      λ i b m.
          let d : n - past + (i - n) ≡ i - past = omega (arith, a, b) in
          let here : past + (i - past) ≡ i = omega (arith, a, b) in
          let none : bits / 2 ^ (i - past) % 2 ≡ 0 = rw d at (w.2 (i - n) (omega (arith, b, m))) in
          let unset : eqb (bits / 2 ^ (i - past) % 2) 1 ≡ false = rw none refl in
          rw here at (sym (h (i - past) (omega (arith, w.0, a, b, m))) ∙ unset),
    )

-- and none past the last
pub no_place : (p : ℕ → Bool) (bits past n : ℕ) → past ≤ n → bits / 2 ^ (n - past) ≡ 0
    → ((j : ℕ) → j < 32 → eqb (bits / 2 ^ j % 2) 1 ≡ p (past + j))
    → (i : ℕ) → n ≤ i → i < past + 32 → p i ≡ false
no_place p bits past n a e h i b m =
    let d : n - past + (i - n) ≡ i - past = omega (arith, a, b) in
    let here : past + (i - past) ≡ i = omega (arith, a, b) in
    let none : bits / 2 ^ (i - past) % 2 ≡ 0 = rw d at (none_left bits (n - past) e (i - n)) in
    let unset : eqb (bits / 2 ^ (i - past) % 2) 1 ≡ false = rw none refl in
    rw here at (sym (h (i - past) (omega (arith, a, b, m))) ∙ unset)

-- what is left past a place
pub bits_left : (bits past n rest : ℕ) → past ≤ n → rest ≡ bits / 2 ^ (n - past) → rest / 2 ^ trailing_zeros w32 rest / 2 ≡ bits / 2 ^ (n + trailing_zeros w32 rest + 1 - past)
bits_left bits past n rest a e =
    let s = trailing_zeros w32 rest in
    let d : n - past + s + 1 ≡ n + s + 1 - past = omega (arith, a) in
    left_bits bits (n - past) rest s e ∙ rw d refl
