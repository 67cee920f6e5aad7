-- Bits of octets, one by one and counted.
use Rattle.std.proofs.Common.{◌≡◌, ℕ, zero, suc, ◌+◌, ◌-◌, ◌*◌, ◌/◌, ◌%◌, ◌^◌, ◌<◌, ◌≤◌, List, length, get_or, take, min, sym, refl, ap, ◌∙◌, add-zero, add-suc, arith, length-take}
use native.Mathlib.Nat.{mod-one, zero-div}
use lib.Bits.{bit_and}
use lib.Count.{ones, ones_cat}
use Rattle.std.proofs.lemmas.Nat.{mod-pow-add, and_mask, pow_pos, mod_below}
use Rattle.std.proofs.lemmas.List.{get_or_past, get_or-take}
use Rattle.status.specs.Bits.{bit_at, set_bits}

-- the number of a bit that is 0 or 1
ones_bit : (b : ℕ) → b < 2 → ones b ≡ b
unfolding ones
ones_bit zero h = refl
ones_bit (suc zero) h = refl
ones_bit (suc (suc b)) h = absurd (omega arith)

ones_zero : ones 0 ≡ 0
unfolding ones
ones_zero = refl

-- one bit more of an octet
ones_more : (x j : ℕ) → ones (x % 2 ^ suc j) ≡ ones (x % 2 ^ j) + x / 2 ^ j % 2
ones_more x j =
    let h : x % 2 ^ j < 2 ^ j = mod_below x (2 ^ j) (pow_pos j) in
    let e : x % 2 ^ (1 + j) ≡ (x / 2 ^ j % 2 ^ 1) * 2 ^ j + x % 2 ^ j = mod-pow-add x 1 j in
    let c : suc j ≡ 1 + j = omega arith in
    let o : ones (x / 2 ^ j % 2) ≡ x / 2 ^ j % 2 = ones_bit (x / 2 ^ j % 2) (omega arith) in
    let g = ones_cat j (x / 2 ^ j % 2) (x % 2 ^ j) h in
    ap (λ (k : ℕ). ones (x % 2 ^ k)) c ∙ ap ones e ∙ g ∙ omega arith

-- the bits of octet i, as far as the j lowest
pub octet_bits : (xs : List ℕ) (i j : ℕ) → j ≤ 8 → set_bits xs (8 * i + j) ≡ set_bits xs (8 * i) + ones (get_or xs i 0 % 2 ^ j)
octet_bits xs i zero h = rw (add-zero, mod-one, ones_zero, add-zero)
octet_bits xs i (suc j) h =
    let e = octet_bits xs i j (omega arith) in
    let q : (8 * i + j) / 8 ≡ i = omega arith in
    let m : (8 * i + j) % 8 ≡ j = omega arith in
    rw (add-suc, q, m, e, ones_more) (omega arith)

-- the bits of an octet that is not there
pub bit_past : (xs : List ℕ) (n : ℕ) → length xs ≤ n / 8 → bit_at xs n ≡ 0
bit_past xs n h = let e : get_or xs (n / 8) 0 ≡ 0 = get_or_past xs (n / 8) 0 h in rw (e, zero-div)

-- the mask of the k + 1 lowest bits
pub masked : (x k : ℕ) → k < 8 → bit_and x (255 / 2 ^ (7 - k)) ≡ x % 2 ^ (k + 1)
masked x k h = mask_is k h ∙ and_mask x (k + 1)
  where
    mask_is : (j : ℕ) → j < 8 → bit_and x (255 / 2 ^ (7 - j)) ≡ bit_and x (2 ^ (j + 1) - 1)
    mask_is zero l = refl
    mask_is (suc zero) l = refl
    mask_is (suc (suc zero)) l = refl
    mask_is (suc (suc (suc zero))) l = refl
    mask_is (suc (suc (suc (suc zero)))) l = refl
    mask_is (suc (suc (suc (suc (suc zero))))) l = refl
    mask_is (suc (suc (suc (suc (suc (suc zero)))))) l = refl
    mask_is (suc (suc (suc (suc (suc (suc (suc zero))))))) l = refl
    mask_is (suc (suc (suc (suc (suc (suc (suc (suc j)))))))) l = absurd (omega arith)

-- the bits of a whole octet
pub octet_whole : (xs : List ℕ) (i : ℕ) → get_or xs i 0 < 256 → set_bits xs (8 * (i + 1)) ≡ set_bits xs (8 * i) + ones (get_or xs i 0)
octet_whole xs i h =
    let e : 8 * (i + 1) ≡ 8 * i + 8 = omega arith in
    let m : get_or xs i 0 % 2 ^ 8 ≡ get_or xs i 0 = omega arith in
    ap (λ (n : ℕ). set_bits xs n) e ∙ octet_bits xs i 8 (omega arith) ∙ ap (λ (x : ℕ). set_bits xs (8 * i) + ones x) m

-- the bits of the last octet of a range, without the spare ones
pub octet_last : (xs : List ℕ) (r : ℕ) →
    set_bits xs (r + 1) ≡ set_bits xs (8 * (r / 8)) + ones (bit_and (get_or xs (r / 8) 0) (255 / 2 ^ (7 - r % 8)))
octet_last xs r =
    let e : r + 1 ≡ 8 * (r / 8) + (r % 8 + 1) = omega arith in
    let h : r % 8 < 8 = omega arith in
    ap (λ (n : ℕ). set_bits xs n) e ∙ octet_bits xs (r / 8) (r % 8 + 1) (omega arith)
    ∙ ap (λ (x : ℕ). set_bits xs (8 * (r / 8)) + ones x) (sym (masked (get_or xs (r / 8) 0) (r % 8) h))

-- octets that are not looked at do not count
front_same : (xs : List ℕ) (i n : ℕ) → n ≤ 8 * i → set_bits (take i xs) n ≡ set_bits xs n
front_same xs i zero h = refl
front_same xs i (suc n) h =
    let e = front_same xs i n (omega arith) in
    let g : get_or (take i xs) (n / 8) 0 ≡ get_or xs (n / 8) 0 = get_or-take i xs (n / 8) 0 (omega arith) in
    rw (e, g)

-- no bit is set past the octets
pub set_past : (xs : List ℕ) (k : ℕ) → set_bits xs (8 * length xs + k) ≡ set_bits xs (8 * length xs)
set_past xs zero = rw add-zero
set_past xs (suc k) =
    let e = set_past xs k in
    let z = bit_past xs (8 * length xs + k) (omega arith) in
    rw add-suc (omega arith)

-- each bit counts one at most
pub set_few : (xs : List ℕ) (n : ℕ) → set_bits xs n ≤ n
set_few xs zero = omega arith
set_few xs (suc n) = let e = set_few xs n in omega arith

-- the bits of the first octets, as many as there are
front_all : (xs : List ℕ) (n : ℕ) → n ≤ length xs → set_bits (take n xs) (8 * length (take n xs)) ≡ set_bits xs (8 * n)
front_all xs n h =
    let l : length (take n xs) ≡ n = simp length-take (omega arith) in
    rw (l, front_same xs n (8 * n) (omega arith))

-- the bits of a range, from its whole octets and its last one
pub count_some : (xs : List ℕ) (r n : ℕ) → n ≡ min (r / 8) (length xs) → r / 8 < length xs →
    set_bits (take n xs) (8 * length (take n xs)) + ones (bit_and (get_or xs (r / 8) 0) (255 / 2 ^ (7 - r % 8))) ≡ set_bits xs (r + 1)
count_some xs r n e h =
    let d : n ≡ r / 8 = omega arith in
    rw (front_all xs n (omega arith), d, octet_last xs r)

-- and where the last one is not there
pub count_none : (xs : List ℕ) (r n : ℕ) → n ≡ min (r / 8) (length xs) → length xs ≤ r / 8 →
    set_bits (take n xs) (8 * length (take n xs)) ≡ set_bits xs (r + 1)
count_none xs r n e h =
    let d : n ≡ length xs = omega arith in
    let k : 8 * length xs + (r + 1 - 8 * length xs) ≡ r + 1 = omega arith in
    rw (front_all xs n (omega arith), d, ← set_past xs (r + 1 - 8 * length xs), k)
