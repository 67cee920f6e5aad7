-- Places in lists.
use Rattle.std.specs.Prelude.{◌≡◌, ℕ, Bool, true, false, cond, not, ◌||◌, ◌≢◌, ◌⊎◌, List, [], ◌∷◌, ◌++◌, filter, ◌==◌, nat_eq, refl}
use Rattle.std.proofs.Common.{sym, ◌∙◌, ap, true≢false, inl, inr, arith}
use Rattle.std.proofs.lemmas.Bool.{false≢true}
use Rattle.std.proofs.lemmas.Bool.Decides.{nat_tests, eqb_tells}
use Rattle.policy.specs.Orders.{has, Once, withdrawn}

pub out_head : (x : ℕ) (xs : List ℕ) (k : ℕ) → has (x ∷ xs) k ≡ false → (x ≢ k) × (has xs k ≡ false)
out_head x xs k e = go (eqb_tells x k)
  where
    go : (((x == k) ≡ true) × (x ≡ k)) ⊎ (((x == k) ≡ false) × (x ≢ k)) → (x ≢ k) × (has xs k ≡ false)
    go (inl (t, q)) = absurd (true≢false (sym (rw t) ∙ e))
    go (inr (t, q)) = (q, sym (rw t) ∙ e)

pub out_cons : (x : ℕ) (xs : List ℕ) (k : ℕ) → x ≢ k → has xs k ≡ false → has (x ∷ xs) k ≡ false
out_cons x xs k n e = grind (arith, nat_tests)

pub in_head : (x : ℕ) (xs : List ℕ) → has (x ∷ xs) x ≡ true
in_head x xs = grind (arith, nat_tests)

pub in_tail : (x : ℕ) (xs : List ℕ) (k : ℕ) → has xs k ≡ true → has (x ∷ xs) k ≡ true
in_tail x xs k e = grind (arith, nat_tests)

pub in_cases : (x : ℕ) (xs : List ℕ) (k : ℕ) → has (x ∷ xs) k ≡ true → (x ≡ k) ⊎ ((x ≢ k) × (has xs k ≡ true))
in_cases x xs k e = go (eqb_tells x k)
  where
    go : (((x == k) ≡ true) × (x ≡ k)) ⊎ (((x == k) ≡ false) × (x ≢ k)) → (x ≡ k) ⊎ ((x ≢ k) × (has xs k ≡ true))
    go (inl (t, q)) = inl q
    go (inr (t, q)) = inr (q, sym (rw t) ∙ e)

pub has_push : (xs : List ℕ) (p k : ℕ) → has (xs ++ p ∷ []) k ≡ (has xs k || p == k)
has_push [] p k = grind (arith, nat_tests)
has_push (x ∷ xs) p k = let e = has_push xs p k in rw e (grind (arith, nat_tests))

pub once_push : (xs : List ℕ) (p : ℕ) → Once xs → has xs p ≡ false → Once (xs ++ p ∷ [])
once_push [] p o h = (refl, tt)
once_push (x ∷ xs) p (f, o) h =
    let q = out_head x xs p h in
    let ne : p ≢ x = λ e. q.0 (sym e) in
    (has_push xs p x ∙ rw f (grind (arith, nat_tests)), once_push xs p o q.1)

-- what a filter keeps
pub kept_in : (f : ℕ → Bool) (zs : List ℕ) (k : ℕ) → has (filter f zs) k ≡ true → (has zs k ≡ true) × (f k ≡ true)
kept_in f [] k e = absurd (false≢true e)
kept_in f (z ∷ zs) k e = go (f z) refl e (kept_in f zs k)
  where
    go : (b : Bool) → f z ≡ b → has (cond b (z ∷ filter f zs) (filter f zs)) k ≡ true →
        (has (filter f zs) k ≡ true → (has zs k ≡ true) × (f k ≡ true)) → (has (z ∷ zs) k ≡ true) × (f k ≡ true)
    go false t h rest = let r = rest h in (in_tail z zs k r.0, r.1)
    go true t h rest =
        elim (in_cases z (filter f zs) k h) [
          | inl q ↦ (rw (← q) (in_head z zs), rw (← q) t)
          | inr q ↦ let r = rest q.1 in (in_tail z zs k r.0, r.1)
        ]

pub in_kept : (f : ℕ → Bool) (zs : List ℕ) (k : ℕ) → has zs k ≡ true → f k ≡ true → has (filter f zs) k ≡ true
in_kept f [] k e t = absurd (false≢true e)
in_kept f (z ∷ zs) k e t = go (f z) refl (λ h. in_kept f zs k h t)
  where
    go : (b : Bool) → f z ≡ b → (has zs k ≡ true → has (filter f zs) k ≡ true) → has (cond b (z ∷ filter f zs) (filter f zs)) k ≡ true
    go true s rest =
        elim (in_cases z zs k e) [
          | inl q ↦ rw (← q) (in_head z (filter f zs))
          | inr q ↦ in_tail z (filter f zs) k (rest q.1)
        ]
    go false s rest =
        elim (in_cases z zs k e) [
          | inl q ↦ absurd (false≢true (sym s ∙ ap f q ∙ t))
          | inr q ↦ rest q.1
        ]

pub out_kept : (f : ℕ → Bool) (zs : List ℕ) (k : ℕ) → has zs k ≡ false → has (filter f zs) k ≡ false
out_kept f zs k e = go (has (filter f zs) k) refl
  where
    go : (b : Bool) → has (filter f zs) k ≡ b → b ≡ false
    go true h = absurd (true≢false (sym (kept_in f zs k h).0 ∙ e))
    go false h = refl

pub not_kept : (f : ℕ → Bool) (zs : List ℕ) (k : ℕ) → f k ≡ false → has (filter f zs) k ≡ false
not_kept f zs k e = go (has (filter f zs) k) refl
  where
    go : (b : Bool) → has (filter f zs) k ≡ b → b ≡ false
    go true h = absurd (true≢false (sym (kept_in f zs k h).1 ∙ e))
    go false h = refl

pub once_kept : (f : ℕ → Bool) (zs : List ℕ) → Once zs → Once (filter f zs)
once_kept f [] o = tt
once_kept f (z ∷ zs) (h, o) = go (f z) (once_kept f zs o)
  where
    go : (b : Bool) → Once (filter f zs) → Once (cond b (z ∷ filter f zs) (filter f zs))
    go true rest = (out_kept f zs z h, rest)
    go false rest = rest

pub kept_push : (f : ℕ → Bool) (zs : List ℕ) (p : ℕ) → filter f (zs ++ p ∷ []) ≡ cond (f p) (filter f zs ++ p ∷ []) (filter f zs)
kept_push f [] p = refl
kept_push f (z ∷ zs) p = go (f z) (f p) (kept_push f zs p)
  where
    go : (b c : Bool) → filter f (zs ++ p ∷ []) ≡ cond c (filter f zs ++ p ∷ []) (filter f zs) →
        cond b (z ∷ filter f (zs ++ p ∷ [])) (filter f (zs ++ p ∷ [])) ≡ cond c (cond b (z ∷ filter f zs) (filter f zs) ++ p ∷ []) (cond b (z ∷ filter f zs) (filter f zs))
    go true true e = rw e
    go true false e = rw e
    go false true e = rw e
    go false false e = rw e

-- two filters, one after the other, in either order
pub kept_kept : (f g : ℕ → Bool) (zs : List ℕ) → filter f (filter g zs) ≡ filter g (filter f zs)
kept_kept f g [] = refl
kept_kept f g (z ∷ zs) = go (f z) (g z) refl refl (kept_kept f g zs)
  where
    go : (b c : Bool) → f z ≡ b → g z ≡ c → filter f (filter g zs) ≡ filter g (filter f zs) →
        filter f (cond c (z ∷ filter g zs) (filter g zs)) ≡ filter g (cond b (z ∷ filter f zs) (filter f zs))
    go true true p q e = rw (p, q, e)
    go true false p q e = rw (q, e)
    go false true p q e = rw (p, e)
    go false false p q e = e

pub without_absent : (xs : List ℕ) (p : ℕ) → has xs p ≡ false → withdrawn p xs ≡ xs
without_absent [] p h = refl
without_absent (x ∷ xs) p h =
    let q = out_head x xs p h in
    let e : nat_eq x p ≡ false = grind (arith, nat_tests) in
    rw (e, without_absent xs p q.1)

pub without_head : (x : ℕ) (xs : List ℕ) → has xs x ≡ false → withdrawn x (x ∷ xs) ≡ xs
without_head x xs h = let e : nat_eq x x ≡ true = grind (arith, nat_tests) in rw e (without_absent xs x h)

pub without_other : (x : ℕ) (xs : List ℕ) (p : ℕ) → x ≢ p → withdrawn p (x ∷ xs) ≡ x ∷ withdrawn p xs
without_other x xs p n = let e : nat_eq x p ≡ false = grind (arith, nat_tests) in rw e

pub has_without : (zs : List ℕ) (p k : ℕ) → has (withdrawn p zs) k ≡ cond (p == k) false (has zs k)
has_without zs p k = go (eqb_tells p k)
  where
    go : (((p == k) ≡ true) × (p ≡ k)) ⊎ (((p == k) ≡ false) × (p ≢ k)) → has (withdrawn p zs) k ≡ cond (p == k) false (has zs k)
    go (inl (t, q)) =
        let e : not (k == p) ≡ false = grind (arith, nat_tests) in
        rw t (not_kept (λ (j : ℕ). not (j == p)) zs k e)
    go (inr (t, q)) =
        let e : not (k == p) ≡ true = grind (arith, nat_tests) in
        rw t (same (has zs k) refl e)
      where
        same : (b : Bool) → has zs k ≡ b → not (k == p) ≡ true → has (withdrawn p zs) k ≡ has zs k
        same true h e = in_kept (λ (j : ℕ). not (j == p)) zs k h e ∙ sym h
        same false h e = out_kept (λ (j : ℕ). not (j == p)) zs k h ∙ sym h
