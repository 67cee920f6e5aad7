-- The order is kept.
use Rattle.std.specs.Prelude.{◌≡◌, ℕ, ◌<◌, ◌≤◌, Bool, true, false, cond, not, ◌≢◌, List, [], ◌∷◌, ◌++◌, length, replicate, filter, ◌==◌, slice_index, slice_index_or, slice_set, refl}
use Rattle.std.proofs.Common.{sym, ◌∙◌, subst, inl, inr, arith, length-set, get_or-set_same, get_or-set_other}
use Rattle.std.proofs.lemmas.List.{get_or_past, get_or-replicate, length-replicate}
use Rattle.std.proofs.lemmas.Bool.{cases_lt, false≢true}
use Rattle.std.proofs.lemmas.Bool.Decides.{nat_tests, eqb_tells}
use Rattle.policy.proofs.Members.{out_head, out_cons, in_cases, in_head, in_tail, has_push, once_push, kept_in, in_kept, out_kept, not_kept, once_kept, kept_push, kept_kept, without_absent, has_without}
use Rattle.policy.proofs.Runs.{run_newer, run_older, run_push, run_without, last_in, before_in, after_in}
use Rattle.policy.specs.Orders.{has, Once, Run, withdrawn, controlled, uncontrolled, end_for}

-- a mark that is written at p, read at k
mark_read : (h : List Bool) (p : ℕ) (b : Bool) (k : ℕ) → p < length h → slice_index_or (slice_set h p b) k false ≡ cond (p == k) b (slice_index_or h k false)
mark_read h p b k l =
    elim (eqb_tells p k) [
      | inl q ↦ rw (q.0, ← q.1, get_or-set_same)
      | inr q ↦ let ne : k ≢ p = λ e. q.1 (sym e) in rw (q.0, get_or-set_other)
    ]

-- the places zs are marked, each once, and none other
abbrev pub Marked : List Bool → List ℕ → Type 0
Marked ms zs = (length ms ≡ 512) × ((k : ℕ) → slice_index_or ms k false ≡ has zs k) × Once zs

pub small : (ms : List Bool) (zs : List ℕ) → Marked ms zs → (k : ℕ) → has zs k ≡ true → k < 512
small ms zs (l, m, o) k h =
    elim (cases_lt k 512) [
      | inl s ↦ s
      | inr s ↦ absurd (false≢true (sym (get_or_past ms k false (omega arith)) ∙ m k ∙ h))
    ]

pub no_large : (ms : List Bool) (zs : List ℕ) → Marked ms zs → (k : ℕ) → 512 ≤ k → has zs k ≡ false
no_large ms zs (l, m, o) k s = sym (m k) ∙ get_or_past ms k false (omega arith)

pub marked_push : (ms : List Bool) (zs : List ℕ) (p : ℕ) → p < 512 → has zs p ≡ false → Marked ms zs → Marked (slice_set ms p true) (zs ++ p ∷ [])
marked_push ms zs p h n (l, m, o) =
    (simp length-set l, (λ k. mark_read ms p true k (omega arith) ∙ rw (m k) (sym (has_push zs p k ∙ grind (arith, nat_tests)))), once_push zs p o n)

pub marked_without : (ms : List Bool) (zs : List ℕ) (p : ℕ) → p < 512 → Marked ms zs → Marked (slice_set ms p false) (withdrawn p zs)
marked_without ms zs p h (l, m, o) =
    (simp length-set l, (λ k. mark_read ms p false k (omega arith) ∙ rw (m k) (sym (has_without zs p k))), once_kept _ zs o)

-- One line of the places zs: those that f keeps, from its end S and back to it. The other line keeps the others, and ends at E.
module _ (ms : List Bool) (ns os : List ℕ) (zs : List ℕ) (S E : ℕ) (f g : ℕ → Bool)
    (marked : Marked ms zs) (ln : length ns ≡ 514) (lo : length os ≡ 514) (hs : 512 ≤ S) (ht : S < 514) (he : 512 ≤ E) (ne : E ≢ S)
    (opposite : (k : ℕ) → g k ≡ true → f k ≡ false) where
  -- the line's end is not among its places
  end_out : (h : ℕ → Bool) (e : ℕ) → 512 ≤ e → has (filter h zs) e ≡ false
  end_out h e l = out_kept h zs e (no_large ms zs marked e l)

  line_once : Once (S ∷ filter g zs)
  line_once = (end_out g S hs, once_kept g zs marked.2)

  -- a place of one line, or its end, is no place of the other, nor its end
  not_other : (t : ℕ) → has (S ∷ filter g zs) t ≡ true → has (E ∷ filter f zs) t ≡ false
  not_other t i =
      elim (in_cases S (filter g zs) t i) [
        | inl q ↦ out_cons E (filter f zs) t (λ z. ne (z ∙ sym q)) (subst (λ (k : ℕ). has (filter f zs) k ≡ false) q (end_out f S hs))
        | inr q ↦
            let k = kept_in g zs t q.1 in
            let l = small ms zs marked t k.0 in
            out_cons E (filter f zs) t (λ z. omega arith) (not_kept f zs t (opposite t k.1))
      ]

  line_small : (t : ℕ) → has (S ∷ filter g zs) t ≡ true → t < 514
  line_small t i =
      elim (in_cases S (filter g zs) t i) [
        | inl q ↦ omega arith
        | inr q ↦ let l = small ms zs marked t (kept_in g zs t q.1).0 in omega arith
      ]

  -- p is offered: its own line and the other
  own_push : (p t : ℕ) → p < 512 → has zs p ≡ false → g p ≡ true → slice_index os S ≡ t → Run ns os S (filter g zs) S →
      Run (slice_set (slice_set ns t p) p S) (slice_set (slice_set os S p) p t) S (filter g (zs ++ p ∷ [])) S
  own_push p t h n y e r =
      let i = subst (λ (z : ℕ). has (S ∷ filter g zs) z ≡ true) e (last_in ns os S (filter g zs) S r) in
      let l = line_small t i in
      let sp : S ≢ p = λ z. omega arith in
      let q : filter g zs ++ p ∷ [] ≡ filter g (zs ++ p ∷ []) = sym (kept_push g zs p ∙ rw y) in
      subst (λ (xs : List ℕ). Run (slice_set (slice_set ns t p) p S) (slice_set (slice_set os S p) p t) S xs S) q
      (run_push ns os S (filter g zs) S t p (omega arith) (omega arith) (omega arith) (omega arith) e line_once (end_out g S hs)
      (out_cons S (filter g zs) p sp (out_kept g zs p n)) sp r)

  other_push : (p t : ℕ) → p < 512 → has zs p ≡ false → g p ≡ true → slice_index os S ≡ t → Run ns os S (filter g zs) S →
      Run ns os E (filter f zs) E → Run (slice_set (slice_set ns t p) p S) (slice_set (slice_set os S p) p t) E (filter f (zs ++ p ∷ [])) E
  other_push p t h n y e r s =
      let i = subst (λ (z : ℕ). has (S ∷ filter g zs) z ≡ true) e (last_in ns os S (filter g zs) S r) in
      let ep : E ≢ p = λ z. omega arith in
      let op : has (E ∷ filter f zs) p ≡ false = out_cons E (filter f zs) p ep (out_kept f zs p n) in
      let q : filter f zs ≡ filter f (zs ++ p ∷ []) = sym (kept_push f zs p ∙ rw (opposite p y)) in
      subst (λ (xs : List ℕ). Run (slice_set (slice_set ns t p) p S) (slice_set (slice_set os S p) p t) E xs E) q
      (run_older _ (slice_set os S p) E (filter f zs) E p t (out_kept f zs p n) ep
      (run_older _ os E (filter f zs) E S p (end_out f S hs) ne
      (run_newer (slice_set ns t p) os E (filter f zs) E p S op (run_newer ns os E (filter f zs) E t p (not_other t i) s))))

  -- the neighbours of a place of the line are on the line
  older_on : (p o : ℕ) → has zs p ≡ true → g p ≡ true → slice_index os p ≡ o → Run ns os S (filter g zs) S → has (S ∷ filter g zs) o ≡ true
  older_on p o i y e r = subst (λ (z : ℕ). has (S ∷ filter g zs) z ≡ true) e (before_in ns os S (filter g zs) S p r (in_kept g zs p i y))

  newer_on : (p w : ℕ) → has zs p ≡ true → g p ≡ true → slice_index ns p ≡ w → Run ns os S (filter g zs) S → has (S ∷ filter g zs) w ≡ true
  newer_on p w i y e r =
      subst (λ (z : ℕ). has (S ∷ filter g zs) z ≡ true) e
      (elim (after_in ns os S (filter g zs) S p r (in_tail S (filter g zs) p (in_kept g zs p i y))) [
        | inl q ↦ in_tail S (filter g zs) (slice_index ns p) q
        | inr q ↦ rw q (in_head S (filter g zs))
      ])

  -- so they have links
  own_small : (p : ℕ) → has zs p ≡ true → g p ≡ true → Run ns os S (filter g zs) S → (slice_index os p < 514) × (slice_index ns p < 514)
  own_small p i y r = (line_small _ (older_on p _ i y refl r), line_small _ (newer_on p _ i y refl r))

  newest_small : Run ns os S (filter g zs) S → slice_index os S < 514
  newest_small r = line_small _ (last_in ns os S (filter g zs) S r)

  -- p is withdrawn: its own line and the other
  own_without : (p o w : ℕ) → has zs p ≡ true → g p ≡ true → slice_index os p ≡ o → slice_index ns p ≡ w → Run ns os S (filter g zs) S →
      Run (slice_set ns o w) (slice_set os w o) S (filter g (withdrawn p zs)) S
  own_without p o w i y eo ew r =
      let a = line_small o (older_on p o i y eo r) in
      let b = line_small w (newer_on p w i y ew r) in
      subst (λ (xs : List ℕ). Run (slice_set ns o w) (slice_set os w o) S xs S) (kept_kept (λ (k : ℕ). not (k == p)) g zs)
      (run_without ns os S (filter g zs) S o w p (omega arith) (omega arith) eo ew line_once (end_out g S hs) (in_kept g zs p i y) r)

  other_without : (p o w : ℕ) → has zs p ≡ true → g p ≡ true → slice_index os p ≡ o → slice_index ns p ≡ w → Run ns os S (filter g zs) S →
      Run ns os E (filter f zs) E → Run (slice_set ns o w) (slice_set os w o) E (filter f (withdrawn p zs)) E
  other_without p o w i y eo ew r s =
      let a = not_other o (older_on p o i y eo r) in
      let b = out_head E (filter f zs) w (not_other w (newer_on p w i y ew r)) in
      let q : filter f zs ≡ filter f (withdrawn p zs) =
      sym (without_absent (filter f zs) p (not_kept f zs p (opposite p y))) ∙ kept_kept (λ (k : ℕ). not (k == p)) f zs in
      subst (λ (xs : List ℕ). Run (slice_set ns o w) (slice_set os w o) E xs E) q
      (run_older (slice_set ns o w) os E (filter f zs) E w o b.1 b.0 (run_newer ns os E (filter f zs) E o w a s))

-- the two filters exclude each other
not_un : (e : Bool) (k : ℕ) → controlled e k ≡ true → uncontrolled e k ≡ false
not_un e k t = rw t

un_not : (e : Bool) (k : ℕ) → uncontrolled e k ≡ true → controlled e k ≡ false
un_not e k t = go (controlled e k) t
  where
    go : (b : Bool) → not b ≡ true → b ≡ false
    go true q = absurd (false≢true q)
    go false q = refl

-- the links, by their three fields
abbrev pub Lines : Bool → List Bool → List ℕ → List ℕ → List ℕ → Type 0
Lines e ms ns os zs = Marked ms zs × Run ns os 512 (filter (controlled e) zs) 512 × Run ns os 513 (filter (uncontrolled e) zs) 513

pub lines_push : (e : Bool) (ms : List Bool) (ns os zs : List ℕ) (p t : ℕ) → length ns ≡ 514 → length os ≡ 514 → p < 512 → has zs p ≡ false →
    slice_index os (end_for e p) ≡ t → Lines e ms ns os zs →
    Lines e (slice_set ms p true) (slice_set (slice_set ns t p) p (end_for e p)) (slice_set (slice_set os (end_for e p) p) p t) (zs ++ p ∷ [])
lines_push e ms ns os zs p t ln lo h n q (m, a, b) = go (controlled e p) refl q
  where
    go : (c : Bool) → controlled e p ≡ c → slice_index os (cond c 512 513) ≡ t →
        Lines e (slice_set ms p true) (slice_set (slice_set ns t p) p (cond c 512 513)) (slice_set (slice_set os (cond c 512 513) p) p t) (zs ++ p ∷ [])
    go true y s = (
      marked_push ms zs p h n m,
      own_push ms ns os zs 512 513 (uncontrolled e) (controlled e) m ln lo (omega arith) (omega arith) (omega arith) (omega arith) (not_un e) p t h n y s a,
      other_push ms ns os zs 512 513 (uncontrolled e) (controlled e) m ln lo (omega arith) (omega arith) (omega arith) (omega arith) (not_un e) p t h n y s a b,
    )
    go false y s =
        let z : uncontrolled e p ≡ true = rw y in (
          marked_push ms zs p h n m,
          other_push ms ns os zs 513 512 (controlled e) (uncontrolled e) m ln lo (omega arith) (omega arith) (omega arith) (omega arith) (un_not e) p t h n z s b a,
          own_push ms ns os zs 513 512 (controlled e) (uncontrolled e) m ln lo (omega arith) (omega arith) (omega arith) (omega arith) (un_not e) p t h n z s b,
        )

pub lines_without : (e : Bool) (ms : List Bool) (ns os zs : List ℕ) (p o w : ℕ) → length ns ≡ 514 → length os ≡ 514 → has zs p ≡ true →
    slice_index os p ≡ o → slice_index ns p ≡ w → Lines e ms ns os zs → Lines e (slice_set ms p false) (slice_set ns o w) (slice_set os w o) (withdrawn p zs)
lines_without e ms ns os zs p o w ln lo i eo ew (m, a, b) = go (controlled e p) refl
  where
    h : p < 512
    h = small ms zs m p i

    go : (c : Bool) → controlled e p ≡ c → Lines e (slice_set ms p false) (slice_set ns o w) (slice_set os w o) (withdrawn p zs)
    go true y = (
      marked_without ms zs p h m,
      own_without ms ns os zs 512 513 (uncontrolled e) (controlled e) m ln lo (omega arith) (omega arith) (omega arith) (omega arith) (not_un e) p o w i y eo ew a,
      other_without ms ns os zs 512 513 (uncontrolled e) (controlled e) m ln lo (omega arith) (omega arith) (omega arith) (omega arith) (not_un e) p o w i y eo ew a b,
    )
    go false y =
        let z : uncontrolled e p ≡ true = rw y in (
          marked_without ms zs p h m,
          other_without ms ns os zs 513 512 (controlled e) (uncontrolled e) m ln lo (omega arith) (omega arith) (omega arith) (omega arith) (un_not e) p o w i z eo ew b a,
          own_without ms ns os zs 513 512 (controlled e) (uncontrolled e) m ln lo (omega arith) (omega arith) (omega arith) (omega arith) (un_not e) p o w i z eo ew b,
        )

-- what a place that is in leads to, and an end
pub lines_small : (e : Bool) (ms : List Bool) (ns os zs : List ℕ) (p : ℕ) → length ns ≡ 514 → length os ≡ 514 → has zs p ≡ true →
    Lines e ms ns os zs → (slice_index os p < 514) × (slice_index ns p < 514)
lines_small e ms ns os zs p ln lo i (m, a, b) = go (controlled e p) refl
  where
    go : (c : Bool) → controlled e p ≡ c → (slice_index os p < 514) × (slice_index ns p < 514)
    go true y = own_small ms ns os zs 512 513 (uncontrolled e) (controlled e) m ln lo (omega arith) (omega arith) (omega arith) (omega arith) (not_un e) p i y a
    go false y =
        let z : uncontrolled e p ≡ true = rw y in
        own_small ms ns os zs 513 512 (controlled e) (uncontrolled e) m ln lo (omega arith) (omega arith) (omega arith) (omega arith) (un_not e) p i z b

pub ends_small : (e : Bool) (ms : List Bool) (ns os zs : List ℕ) (p : ℕ) → length ns ≡ 514 → length os ≡ 514 → Lines e ms ns os zs → slice_index os (end_for e p) < 514
ends_small e ms ns os zs p ln lo (m, a, b) = go (controlled e p)
  where
    go : (c : Bool) → slice_index os (cond c 512 513) < 514
    go true = newest_small ms ns os zs 512 513 (uncontrolled e) (controlled e) m ln lo (omega arith) (omega arith) (omega arith) (omega arith) (not_un e) a
    go false = newest_small ms ns os zs 513 512 (controlled e) (uncontrolled e) m ln lo (omega arith) (omega arith) (omega arith) (omega arith) (un_not e) b

-- nothing is marked at first
pub none_marked : (k : ℕ) → slice_index_or (replicate 512 false) k false ≡ false
none_marked k =
    elim (cases_lt k 512) [
      | inl h ↦ get_or-replicate 512 k false false h
      | inr h ↦ get_or_past (replicate 512 false) k false (rw length-replicate h)
    ]
