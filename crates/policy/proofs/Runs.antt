-- Runs of links.
use Rattle.std.specs.Prelude.{◌≡◌, ℕ, ◌<◌, true, false, ◌≢◌, ◌⊎◌, List, [], ◌∷◌, ◌++◌, length, slice_index, slice_index_or, slice_set}
use Rattle.std.proofs.Common.{sym, ◌∙◌, ap, subst, true≢false, inl, inr, arith, length-set, get_or-set_same, get_or-set_other}
use Rattle.std.proofs.lemmas.Bool.{false≢true}
use Rattle.policy.proofs.Members.{out_head, in_head, in_tail, in_cases, without_head, without_other}
use Rattle.policy.specs.Orders.{has, Once, Run, withdrawn}

-- a run does not look at other places
pub run_newer : (ns os : List ℕ) (a : ℕ) (xs : List ℕ) (b i v : ℕ) → has (a ∷ xs) i ≡ false → Run ns os a xs b → Run (slice_set ns i v) os a xs b
run_newer ns os a [] b i v h (p, q) = let ne : a ≢ i = (out_head a [] i h).0 in (rw get_or-set_other p, q)
run_newer ns os a (x ∷ xs) b i v h (p, q, r) =
    let o = out_head a (x ∷ xs) i h in
    let ne : a ≢ i = o.0 in
    (rw get_or-set_other p, q, run_newer ns os x xs b i v o.1 r)

pub run_older : (ns os : List ℕ) (a : ℕ) (xs : List ℕ) (b i v : ℕ) → has xs i ≡ false → b ≢ i → Run ns os a xs b → Run ns (slice_set os i v) a xs b
run_older ns os a [] b i v h ne (p, q) = (p, rw get_or-set_other q)
run_older ns os a (x ∷ xs) b i v h ne (p, q, r) =
    let o = out_head x xs i h in
    let nx : x ≢ i = o.0 in
    (p, rw get_or-set_other q, run_older ns os x xs b i v o.1 ne r)

-- the last of a run
pub last_in : (ns os : List ℕ) (a : ℕ) (xs : List ℕ) (b : ℕ) → Run ns os a xs b → has (a ∷ xs) (slice_index os b) ≡ true
last_in ns os a [] b (p, q) = rw q (in_head a [])
last_in ns os a (x ∷ xs) b (p, q, r) = in_tail a (x ∷ xs) (slice_index os b) (last_in ns os x xs b r)

-- the one before a place in a run, and the one after it
pub before_in : (ns os : List ℕ) (a : ℕ) (xs : List ℕ) (b p : ℕ) → Run ns os a xs b → has xs p ≡ true → has (a ∷ xs) (slice_index os p) ≡ true
before_in ns os a [] b p r h = absurd (false≢true h)
before_in ns os a (x ∷ xs) b p (u, v, r) h =
    elim (in_cases x xs p h) [
      | inl e ↦ rw (← e, v) (in_head a (x ∷ xs))
      | inr e ↦ in_tail a (x ∷ xs) (slice_index os p) (before_in ns os x xs b p r e.1)
    ]

pub after_in : (ns os : List ℕ) (a : ℕ) (xs : List ℕ) (b p : ℕ) → Run ns os a xs b → has (a ∷ xs) p ≡ true → (has xs (slice_index ns p) ≡ true) ⊎ (slice_index ns p ≡ b)
after_in ns os a [] b p (u, v) h =
    elim (in_cases a [] p h) [
      | inl e ↦ inr (rw (← e) u)
      | inr e ↦ absurd (false≢true e.1)
    ]
after_in ns os a (x ∷ xs) b p (u, v, r) h =
    elim (in_cases a (x ∷ xs) p h) [
      | inl e ↦ inl (rw (← e, u) (in_head x xs))
      | inr e ↦ elim (after_in ns os x xs b p r e.1) [ inl q ↦ inl (in_tail x xs (slice_index ns p) q) | inr q ↦ inr q ]
    ]

-- two elements written
both_other : (l : List ℕ) (i v j w k : ℕ) → k ≢ i → k ≢ j → slice_index (slice_set (slice_set l i v) j w) k ≡ slice_index l k
both_other l i v j w k p q = get_or-set_other (slice_set l i v) j k w 0 q ∙ get_or-set_other l i k v 0 p

both_first : (l : List ℕ) (i v j w : ℕ) → i ≢ j → i < length l → slice_index (slice_set (slice_set l i v) j w) i ≡ v
both_first l i v j w p h = get_or-set_other (slice_set l i v) j i w 0 p ∙ get_or-set_same l i v 0 h

both_second : (l : List ℕ) (i v j w : ℕ) → j < length l → slice_index (slice_set (slice_set l i v) j w) j ≡ w
both_second l i v j w h = get_or-set_same (slice_set l i v) j w 0 (simp length-set h)

-- p goes in between the last place t of a run and its end b
pub run_push : (ns os : List ℕ) (a : ℕ) (xs : List ℕ) (b t p : ℕ) → p < length ns → t < length ns → p < length os → b < length os →
    slice_index os b ≡ t → Once (a ∷ xs) → has xs b ≡ false → has (a ∷ xs) p ≡ false → b ≢ p → Run ns os a xs b →
    Run (slice_set (slice_set ns t p) p b) (slice_set (slice_set os b p) p t) a (xs ++ p ∷ []) b
run_push ns os a [] b t p hn ht ho hb e once nb np bp (u, v) =
    let ap' : a ≢ p = (out_head a [] p np).0 in
    let q : t ≡ a = sym e ∙ v in
    let tp : t ≢ p = λ z. ap' (sym q ∙ z) in (
      ap (λ (z : ℕ). slice_index (slice_set (slice_set ns t p) p b) z) (sym q) ∙ both_first ns t p p b tp ht,
      both_second os b p p t ho ∙ q,
      (both_second ns t p p b hn, both_first os b p p t bp hb),
    )
run_push ns os a (x ∷ xs) b t p hn ht ho hb e (f, once) nb np bp (u, v, r) =
    let o = out_head a (x ∷ xs) p np in
    let xp : x ≢ p = (out_head x xs p o.1).0 in
    let xb : x ≢ b = (out_head x xs b nb).0 in
    let at' : a ≢ t = λ z. true≢false (sym (last_in ns os x xs b r) ∙ ap (has (x ∷ xs)) (e ∙ sym z) ∙ f) in (
      both_other ns t p p b a at' o.0 ∙ u,
      both_other os b p p t x xb xp ∙ v,
      run_push ns os x xs b t p hn ht ho hb e once (out_head x xs b nb).1 o.1 bp r,
    )

-- a is joined to what follows x
run_join : (ns os : List ℕ) (a x : ℕ) (xs : List ℕ) (b w : ℕ) → a < length ns → w < length os → slice_index ns x ≡ w →
    has xs a ≡ false → Once xs → has xs b ≡ false → Run ns os x xs b → Run (slice_set ns a w) (slice_set os w a) a xs b
run_join ns os a x [] b w ha hw e na once nb (u, v) =
    let q : w ≡ b = sym e ∙ u in
    (get_or-set_same ns a w 0 ha ∙ q, ap (λ (z : ℕ). slice_index (slice_set os w a) z) (sym q) ∙ get_or-set_same os w a 0 hw)
run_join ns os a x (y ∷ ys) b w ha hw e na (f, once) nb (u, v, r) =
    let q : y ≡ w = sym u ∙ e in
    let b≢w : b ≢ w = λ z. (out_head y ys b nb).0 (q ∙ sym z) in (
      get_or-set_same ns a w 0 ha ∙ sym q,
      ap (λ (z : ℕ). slice_index (slice_set os w a) z) q ∙ get_or-set_same os w a 0 hw,
      run_older (slice_set ns a w) os y ys b w a (rw q at f) b≢w (run_newer ns os y ys b a w na r),
    )

-- what follows p is not x
not_after : (ns os : List ℕ) (x : ℕ) (xs : List ℕ) (b p w : ℕ) → has xs x ≡ false → x ≢ b → slice_index ns p ≡ w →
    (has xs (slice_index ns p) ≡ true) ⊎ (slice_index ns p ≡ b) → x ≢ w
not_after ns os x xs b p w g xb e (inl h) z = true≢false (sym h ∙ ap (has xs) (e ∙ sym z) ∙ g)
not_after ns os x xs b p w g xb e (inr h) z = xb (z ∙ sym e ∙ h)

-- the neighbours o and w of a place p are joined
pub run_without : (ns os : List ℕ) (a : ℕ) (xs : List ℕ) (b o w p : ℕ) → o < length ns → w < length os → slice_index os p ≡ o → slice_index ns p ≡ w →
    Once (a ∷ xs) → has xs b ≡ false → has xs p ≡ true → Run ns os a xs b → Run (slice_set ns o w) (slice_set os w o) a (withdrawn p xs) b
run_without ns os a [] b o w p ho hw eo ew once nb ip r = absurd (false≢true ip)
run_without ns os a (x ∷ xs) b o w p ho hw eo ew (f, (g, once)) nb ip (u, v, r) =
    elim (in_cases x xs p ip) [
      | inl q ↦
          let oa : a ≡ o = sym v ∙ ap (λ (z : ℕ). slice_index os z) q ∙ eo in
          let gone : xs ≡ withdrawn p (x ∷ xs) = sym (ap (λ (z : ℕ). withdrawn z (x ∷ xs)) (sym q) ∙ without_head x xs g) in
          let xw : slice_index_or ns x 0 ≡ w = ap (λ (z : ℕ). slice_index ns z) q ∙ ew in
          let ha : a < length ns = omega arith in
          let j : Run (slice_set ns a w) (slice_set os w a) a xs b = run_join ns os a x xs b w ha hw xw (out_head x xs a f).1 once (out_head x xs b nb).1 r in
          let k : Run (slice_set ns o w) (slice_set os w o) a xs b = subst (λ (z : ℕ). Run (slice_set ns z w) (slice_set os w z) a xs b) oa j in
          subst (λ (zs : List ℕ). Run (slice_set ns o w) (slice_set os w o) a zs b) gone k
      | inr q ↦
          let a≢o : a ≢ o = λ z. true≢false (sym (before_in ns os x xs b p r q.1) ∙ ap (has (x ∷ xs)) (eo ∙ sym z) ∙ f) in
          let x≢w : x ≢ w = λ z. not_after ns os x xs b p w g (out_head x xs b nb).0 ew (after_in ns os x xs b p r (in_tail x xs p q.1)) z in
          let rest = run_without ns os x xs b o w p ho hw eo ew (g, once) (out_head x xs b nb).1 q.1 r in
          subst (λ (zs : List ℕ). Run (slice_set ns o w) (slice_set os w o) a zs b) (sym (without_other x xs p q.0))
          (get_or-set_other ns o a w 0 a≢o ∙ u, get_or-set_other os w x o 0 x≢w ∙ v, rest)
    ]
