-- Each row of the table: the layout that is tested is the layout that is said.
use Rattle.std.proofs.Common.{◌≡◌, ℕ, ◌+◌, ◌*◌, ◌/◌, ◌%◌, ◌≤◌, Bool, true, cond, ◌&&◌, ◌||◌, eqb, leb, ◌⊎◌, List, [], ◌∷◌, ◌++◌, length, get_or, take, drop, Some, None, refl, ◌∙◌, subst, inl, inr, arith, length-append}
use Rattle.std.proofs.lemmas.List.{nil_from_length, take_all, take_at, length-drop}
use Rattle.std.proofs.lemmas.Bool.Decides.{nat_tests}
use Rattle.std.proofs.lemmas.Option.{cond_some}
use Rattle.status.specs.Bits.{octets_for}
use Rattle.status.specs.Parameter as group
use Rattle.message.proofs.Lists.{first_two, first_three}
use Rattle.message.specs.Decode.{laid_out_as, release_laid_out, as_group_reset_ack, as_grouped, as_release}
use Rattle.message.specs.Format.{Parameter, Follows}
use Rattle.message.specs.Msg.{Msg, single, release_complete, group_reset, group_reset_ack, grouped, release, call, cic_in, kind_in}
use Rattle.message.specs.declared.kinds.Kind.{Kind}
use Rattle.message.specs.declared.kinds.Kind.TheVariants as kind

-- m is a message of the kind k and the circuit c, and xs follows its type
abbrev pub Row : Kind → ℕ → List ℕ → Msg → Type 0
Row k c xs m = (kind_in m ≡ k) × (cic_in m ≡ c) × Follows m xs

row_of : (k : Kind) (c : ℕ) (xs : List ℕ) (b : Bool) (x m : Msg) → (b ≡ true → Row k c xs x) → cond b (Some x) None ≡ Some m → Row k c xs m
row_of k c xs b x m f e = let p = cond_some b x m e in subst (λ (n : Msg). Row k c xs n) p.1 (f p.0)

parameter_said : (xs : List ℕ) → group.laid_out xs ≡ true → Parameter (get_or xs 1 0) (drop 2 xs) xs
parameter_said xs t =
    let two : 2 ≤ length xs = grind (arith, nat_tests) in
    let l : get_or xs 0 0 ≡ 1 + octets_for (get_or xs 1 0) = grind (arith, nat_tests) in
    let n : length xs ≡ 2 + octets_for (get_or xs 1 0) = grind (arith, nat_tests) in
    (simp length-drop (omega arith), first_two xs two ∙ rw l)

complete_said : (xs : List ℕ) → (eqb (length xs) 0 || (eqb (length xs) 1 && eqb (get_or xs 0 0) 0)) ≡ true → (xs ≡ []) ⊎ (xs ≡ 0 ∷ [])
complete_said [] t = inl refl
complete_said (a ∷ []) t = let z : a ≡ 0 = grind (arith, nat_tests) in inr (rw z)
complete_said (a ∷ b ∷ xs) t = absurd (grind (arith, nat_tests))

reset_said : (c : ℕ) (xs : List ℕ) → (eqb (length xs) 3 && (eqb (get_or xs 0 0) 1 && eqb (get_or xs 1 0) 1)) ≡ true →
    xs ≡ 1 ∷ 1 ∷ get_or xs 2 0 ∷ []
reset_said c xs t =
    let n : length xs ≡ 3 = grind (arith, nat_tests) in
    let a : get_or xs 0 0 ≡ 1 = grind (arith, nat_tests) in
    let b : get_or xs 1 0 ≡ 1 = grind (arith, nat_tests) in
    let z : drop 3 xs ≡ [] = nil_from_length (drop 3 xs) (simp length-drop (omega arith)) in
    first_three xs (omega arith) ∙ rw (a, b, z)

ack_said : (c : ℕ) (xs : List ℕ) → (leb 1 (length xs) && (eqb (get_or xs 0 0) 1 && group.laid_out (drop 1 xs))) ≡ true →
    Follows (group_reset_ack c (get_or xs 2 0) (drop 3 xs)) xs
ack_said c [] t = absurd (grind (arith, nat_tests))
ack_said c (a ∷ xs) t =
    let one : a ≡ 1 = grind (arith, nat_tests) in
    let l : group.laid_out xs ≡ true = grind (arith, nat_tests) in
    (xs, parameter_said xs l, rw one)

grouped_said : (c : ℕ) (k : _) (xs : List ℕ) → (leb 2 (length xs) && (eqb (get_or xs 1 0) 1 && group.laid_out (drop 2 xs))) ≡ true →
    Follows (grouped c k (get_or xs 0 0 % 4) (get_or xs 3 0) (drop 4 xs)) xs
grouped_said c k [] t = absurd (grind (arith, nat_tests))
grouped_said c k (i ∷ []) t = absurd (grind (arith, nat_tests))
grouped_said c k (i ∷ a ∷ xs) t =
    let one : a ≡ 1 = grind (arith, nat_tests) in
    let l : group.laid_out xs ≡ true = grind (arith, nat_tests) in
    let s : i ≡ i % 4 + 4 * (i / 4) = omega arith in
    (i / 4, xs, omega arith, parameter_said xs l, rw (one, ← s))

release_said : (c : ℕ) (xs : List ℕ) → release_laid_out xs ≡ true → Follows (release c (take 2 (drop 3 xs))) xs
release_said c [] t = absurd (grind (arith, nat_tests))
release_said c (a ∷ []) t = absurd (grind (arith, nat_tests))
release_said c (a ∷ b ∷ []) t = absurd (grind (arith, nat_tests))
release_said c (a ∷ p ∷ b ∷ []) t = absurd (grind (arith, nat_tests))
release_said c (a ∷ p ∷ b ∷ x ∷ []) t = absurd (grind (arith, nat_tests))
release_said c (a ∷ p ∷ b ∷ x ∷ y ∷ []) t =
    let e : a ≡ 2 = grind (arith, nat_tests) in
    let f : p ≡ 0 = grind (arith, nat_tests) in
    let g : b ≡ 2 = grind (arith, nat_tests) in
    (refl, inl (rw (e, f, g)))
release_said c (a ∷ p ∷ b ∷ x ∷ y ∷ z ∷ more) t =
    let e : a ≡ 2 = grind (arith, nat_tests) in
    let f : p ≡ 4 = grind (arith, nat_tests) in
    let g : b ≡ 2 = grind (arith, nat_tests) in
    (refl, inr (z ∷ more, omega arith, rw (e, f, g)))

-- what is laid out as a kind is said to follow
pub laid_said : (k : Kind) (c : ℕ) (xs : List ℕ) (m : Msg) → laid_out_as k c xs ≡ Some m → Row k c xs m
laid_said (kind.Single j) c xs m = row_of _ c xs _ _ m (λ t. (refl, refl, nil_from_length xs (grind (arith, nat_tests))))
laid_said kind.ReleaseComplete c xs m = row_of _ c xs _ _ m (λ t. (refl, refl, complete_said xs t))
laid_said kind.GroupReset c xs m = row_of _ c xs _ _ m (λ t. (refl, refl, reset_said c xs t))
laid_said kind.GroupResetAck c xs m = row_of _ c xs _ _ m (λ t. (refl, refl, ack_said c xs t))
laid_said (kind.Grouped j) c xs m = row_of _ c xs _ _ m (λ t. (refl, refl, grouped_said c j xs t))
laid_said kind.Release c xs m = row_of _ c xs _ _ m (λ t. (refl, refl, release_said c xs t))
laid_said (kind.Call j) c xs m = row_of _ c xs _ _ m (λ t. (refl, refl, (grind (arith, nat_tests), refl)))

parameter_laid : (r : ℕ) (s xs : List ℕ) → Parameter r s xs → (group.laid_out xs ≡ true) × (get_or xs 1 0 ≡ r) × (drop 2 xs ≡ s)
parameter_laid r s xs p = rw p.1 (grind (arith, nat_tests), refl, refl)

ack_laid : (c r : ℕ) (s xs : List ℕ) → Follows (group_reset_ack c r s) xs → as_group_reset_ack c xs ≡ Some (group_reset_ack c r s)
ack_laid c r s xs (p, q, e) =
    let l = parameter_laid r s p q in
    rw (e, l.0, l.1, l.2) (grind (arith, nat_tests))

grouped_laid : (c : ℕ) (k : _) (i r : ℕ) (s xs : List ℕ) → Follows (grouped c k i r s) xs → as_grouped c k xs ≡ Some (grouped c k i r s)
grouped_laid c k i r s xs (j, p, h, q, e) =
    let l = parameter_laid r s p q in
    let m : (i + 4 * j) % 4 ≡ i = omega arith in
    rw (e, l.0, l.1, l.2, m) (grind (arith, nat_tests))

release_laid : (c : ℕ) (x xs : List ℕ) → Follows (release c x) xs → as_release c xs ≡ Some (release c x)
release_laid c x xs (n, inl e) = let t : take 2 x ≡ x = take_all 2 x (omega arith) in rw (e, t) (grind (arith, nat_tests))
release_laid c x xs (n, inr (more, h, e)) =
    let t : take 2 (x ++ more) ≡ x = take_at x more 2 n in
    let l = length-append x more in
    rw (e, t) (grind (arith, nat_tests))

-- what is said to follow is laid out
pub said_laid : (m : Msg) (xs : List ℕ) → Follows m xs → laid_out_as (kind_in m) (cic_in m) xs ≡ Some m
said_laid (single c k) xs f = rw f
said_laid (release_complete c) xs (inl e) = rw e
said_laid (release_complete c) xs (inr e) = rw e
said_laid (group_reset c r) xs f = rw f
said_laid (group_reset_ack c r s) xs f = ack_laid c r s xs f
said_laid (grouped c k i r s) xs f = grouped_laid c k i r s xs f
said_laid (release c x) xs f = release_laid c x xs f
said_laid (call c k x) xs (h, e) = rw e (grind (arith, nat_tests))
