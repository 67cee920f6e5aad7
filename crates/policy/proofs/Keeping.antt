-- Links that are offered, withdrawn and chosen from keep the order.
use Rattle.std.specs.Prelude.{◌≡◌, ℕ, ◌<◌, ◌≤◌, Bool, true, false, cond, ltb, ◌⊎◌, List, [], ◌∷◌, ◌++◌, length, get_or, set, is_some, Some, None, filter, Option, nat_lt, slice_index, slice_index_or, slice_set, refl}
use Rattle.std.proofs.Common.{sym, ◌∙◌, ap, true≢false, inl, inr, arith}
use Rattle.std.proofs.lemmas.Bool.{false≢true}
use Rattle.std.proofs.Math.Logic.{∥∥₁_elim}
use base.Stored.{Coded-set, coded_bool}
use Rattle.std.proofs.lemmas.List.{set-get_or, set_comm}
use Rattle.std.proofs.lemmas.Bool.Decides.{nat_tests}
use Rattle.policy.specs.Fields.{field_length, marks-length}
use Rattle.std.specs.Option.{unwrap_or}
use Rattle.policy.proofs.Runs.{last_in}
use Rattle.policy.proofs.Members.{in_head, in_tail, in_kept, kept_in, without_absent}
use Rattle.policy.proofs.Ordering.{Marked, Lines, small, lines_push, lines_without, lines_small, ends_small}
use Rattle.policy.specs.Orders.{has, Run, Ordered, InOrder, newers, olders, marks, end_for, offered, withdrawn, controlled, uncontrolled, preferred, first_of, last_of}
use Rattle.policy.specs.Sets.{Chosen}
use Rattle.policy.specs.declared.interface.Place.{Place}
use Rattle.policy.specs.declared.links.Link.{Link}

to_lines : (e : Bool) (ls : List Link) (zs : List ℕ) → length ls ≡ 514 → Ordered e ls zs → Lines e (marks ls) (newers ls) (olders ls) zs
to_lines e ls zs l (m, o, a, b) = ((marks-length ls l, m, o), a, b)

from_lines : (e : Bool) (ls : List Link) (ms : List Bool) (ns os zs : List ℕ) → marks ls ≡ ms → newers ls ≡ ns → olders ls ≡ os →
    Lines e ms ns os zs → Ordered e ls zs
from_lines e ls ms ns os zs p q r ((l, m, o), a, b) = rw (p, q, r) (m, o, a, b)

-- a place that is in leads to links, and so does an end
newers_length : (ls : List Link) → length ls ≡ 514 → length (newers ls) ≡ 514
newers_length ls l = field_length (λ (k : Link). k.newer) ls ∙ l

olders_length : (ls : List Link) → length ls ≡ 514 → length (olders ls) ≡ 514
olders_length ls l = field_length (λ (k : Link). k.older) ls ∙ l

member_leads : (e : Bool) (ls : List Link) (p : ℕ) → length ls ≡ 514 → slice_index_or (marks ls) p false ≡ true →
    (zs : List ℕ) → Ordered e ls zs → (slice_index (olders ls) p < 514) × (slice_index (newers ls) p < 514)
member_leads e ls p l t zs o = lines_small e (marks ls) _ _ zs p (newers_length ls l) (olders_length ls l) (sym (o.0 p) ∙ t) (to_lines e ls zs l o)

below : (x : ℕ) → x < 514 → ltb x 514 ≡ true
below x h = grind (arith, nat_tests)

is_below : (x : ℕ) → ltb x 514 ≡ true → x < 514
is_below x h = grind (arith, nat_tests)

pub older_leads : (e : Bool) (ls : List Link) (p : ℕ) → length ls ≡ 514 → slice_index_or (marks ls) p false ≡ true → InOrder e ls → slice_index (olders ls) p < 514
older_leads e ls p l t k = is_below _ (∥∥₁_elim k (Coded-set coded_bool _ _) (λ z. below _ (member_leads e ls p l t z.0 z.1).0))

pub newer_leads : (e : Bool) (ls : List Link) (p : ℕ) → length ls ≡ 514 → slice_index_or (marks ls) p false ≡ true → InOrder e ls → slice_index (newers ls) p < 514
newer_leads e ls p l t k = is_below _ (∥∥₁_elim k (Coded-set coded_bool _ _) (λ z. below _ (member_leads e ls p l t z.0 z.1).1))

pub end_leads : (e : Bool) (ls : List Link) (p : ℕ) → length ls ≡ 514 → InOrder e ls → slice_index (olders ls) (end_for e p) < 514
end_leads e ls p l k =
    is_below _ (∥∥₁_elim k (Coded-set coded_bool _ _)
    (λ z. below _ (ends_small e (marks ls) _ _ z.0 p (newers_length ls l) (olders_length ls l) (to_lines e ls z.0 l z.1))))

-- a mark that is written as it was
pub same_mark : (bs : List Bool) (k : ℕ) (b : Bool) → slice_index_or bs k false ≡ b → bs ≡ slice_set bs k b
same_mark bs k b e = sym (ap (λ (v : Bool). set bs k v) (sym e) ∙ set-get_or bs k false)

pub offer_new : (e : Bool) (ls ls' : List Link) (p end : ℕ) → length ls ≡ 514 → p < 512 → slice_index_or (marks ls) p false ≡ false → end ≡ end_for e p →
    newers ls' ≡ slice_set (slice_set (newers ls) (slice_index (olders ls) end) p) p end → olders ls' ≡ slice_set (slice_set (olders ls) end p) p (slice_index (olders ls) end) →
    marks ls' ≡ slice_set (marks ls) p true → (zs : List ℕ) → Ordered e ls zs → Ordered e ls' (offered p zs)
offer_new e ls ls' p end l h f q a b c zs o =
    let n = field_length (λ (k : Link). k.newer) ls in
    let d = field_length (λ (k : Link). k.older) ls in
    let out : has zs p ≡ false = sym (o.0 p) ∙ f in
    let w : offered p zs ≡ zs ++ p ∷ [] = grind (arith, nat_tests) in
    rw w (from_lines e ls' _ _ _ (zs ++ p ∷ []) c (rw q at a) (rw q at b)
    (lines_push e (marks ls) (newers ls) (olders ls) zs p _ (omega arith) (omega arith) h out refl (to_lines e ls zs l o)))

-- an end is no place
end_past : (b : Bool) → 512 ≤ cond b 512 513
end_past true = omega arith
end_past false = omega arith

-- so it does not matter which of the two is written first
pub end_first : (e : Bool) (p end x y : ℕ) (ns : List ℕ) → p < 512 → end ≡ end_for e p → slice_set (slice_set ns p x) end y ≡ slice_set (slice_set ns end y) p x
end_first e p end x y ns h q =
    let past : 512 ≤ end = rw q (end_past (controlled e p)) in
    set_comm ns p end x y (λ r. omega arith)

-- offered again, a member keeps its turn, whether its mark is written again or not
pub offer_member : (e : Bool) (ls ls' : List Link) (p : ℕ) → slice_index_or (marks ls) p false ≡ true → newers ls' ≡ newers ls → olders ls' ≡ olders ls →
    marks ls' ≡ slice_set (marks ls) p true → (zs : List ℕ) → Ordered e ls zs → Ordered e ls' (offered p zs)
offer_member e ls ls' p t a b c zs (m, o, r, s) =
    let i : has zs p ≡ true = sym (m p) ∙ t in
    let w : offered p zs ≡ zs = grind (arith, nat_tests) in
    let d : marks ls' ≡ marks ls = c ∙ sym (same_mark (marks ls) p true t) in
    rw (w, a, b, d) (m, o, r, s)

pub offer_past : (e : Bool) (ls : List Link) (p : ℕ) → 512 ≤ p → (zs : List ℕ) → Ordered e ls zs → Ordered e ls (offered p zs)
offer_past e ls p h zs o = let w : offered p zs ≡ zs = grind (arith, nat_tests) in rw w o

pub withdraw_member : (e : Bool) (ls ls' : List Link) (p : ℕ) → length ls ≡ 514 → slice_index_or (marks ls) p false ≡ true →
    newers ls' ≡ slice_set (newers ls) (slice_index (olders ls) p) (slice_index (newers ls) p) → olders ls' ≡ slice_set (olders ls) (slice_index (newers ls) p) (slice_index (olders ls) p) →
    marks ls' ≡ slice_set (marks ls) p false → (zs : List ℕ) → Ordered e ls zs → Ordered e ls' (withdrawn p zs)
withdraw_member e ls ls' p l t a b c zs o =
    let n = field_length (λ (k : Link). k.newer) ls in
    let d = field_length (λ (k : Link). k.older) ls in
    from_lines e ls' _ _ _ (withdrawn p zs) c a b
    (lines_without e (marks ls) (newers ls) (olders ls) zs p _ _ (omega arith) (omega arith) (sym (o.0 p) ∙ t) refl refl (to_lines e ls zs l o))

pub withdraw_other : (e : Bool) (ls : List Link) (p : ℕ) → slice_index_or (marks ls) p false ≡ false → (zs : List ℕ) → Ordered e ls zs → Ordered e ls (withdrawn p zs)
withdraw_other e ls p f zs o = rw (without_absent zs p (sym (o.0 p) ∙ f)) o

-- the last of a run stands before its end
last_of_lem : (ns os : List ℕ) (y : ℕ) (ys : List ℕ) (b : ℕ) → Run ns os y ys b → last_of (y ∷ ys) ≡ Some (record { 0 = slice_index os b })
last_of_lem ns os y [] b (p, q) = rw q
last_of_lem ns os y (z ∷ zs) b (p, q, r) = last_of_lem ns os z zs b r

-- what stands next to the two ends
pick : (ns os xs ys : List ℕ) → ((k : ℕ) → has xs k ≡ true → k < 512) → ((k : ℕ) → has ys k ≡ true → k < 512) →
    Run ns os 512 xs 512 → Run ns os 513 ys 513 →
    cond (nat_lt (slice_index ns 512) 512) (Some (record { 0 = slice_index ns 512 })) (cond (nat_lt (slice_index os 513) 512) (Some (record { 0 = slice_index os 513 })) None)
    ≡ first_of xs (last_of ys)
pick ns os (x ∷ xs) ys a b (p, q, r) s =
    let l : x < 512 = a x (in_head x xs) in
    let t : ltb x 512 ≡ true = grind (arith, nat_tests) in
    rw (p, t)
pick ns os [] [] a b (p, q) (u, v) = rw (p, v)
pick ns os [] (y ∷ ys) a b (p, q) (u, v, s) =
    let l : get_or os 513 0 < 512 = b (slice_index os 513) (last_in ns os y ys 513 s) in
    let t : ltb (slice_index os 513) 512 ≡ true = grind (arith, nat_tests) in
    rw (p, t) (sym (last_of_lem ns os y ys 513 s))

chosen_is : (e : Bool) (ls : List Link) (zs : List ℕ) → length ls ≡ 514 → Ordered e ls zs →
    cond (nat_lt (slice_index (newers ls) 512) 512) (Some (record { 0 = slice_index (newers ls) 512 }))
    (cond (nat_lt (slice_index (olders ls) 513) 512) (Some (record { 0 = slice_index (olders ls) 513 })) None)
    ≡ preferred e zs
chosen_is e ls zs l (m, o, a, b) =
    let k : Marked (marks ls) zs = (marks-length ls l, m, o) in
    pick (newers ls) (olders ls) _ _
    (λ i h. small (marks ls) zs k i (kept_in (controlled e) zs i h).0) (λ i h. small (marks ls) zs k i (kept_in (uncontrolled e) zs i h).0) a b

pub chosen_first : (e : Bool) (ls : List Link) (x : ℕ) → length ls ≡ 514 → slice_index (newers ls) 512 ≡ x → x < 512 →
    (zs : List ℕ) → Ordered e ls zs → Some (record { 0 = x }) ≡ preferred e zs
chosen_first e ls x l q h zs o =
    let c = chosen_is e ls zs l o in
    let t : ltb x 512 ≡ true = grind (arith, nat_tests) in
    rw (q, t) at c

pub chosen_last : (e : Bool) (ls : List Link) (x y : ℕ) → length ls ≡ 514 → slice_index (newers ls) 512 ≡ x → 512 ≤ x → slice_index (olders ls) 513 ≡ y → y < 512 →
    (zs : List ℕ) → Ordered e ls zs → Some (record { 0 = y }) ≡ preferred e zs
chosen_last e ls x y l q h r g zs o =
    let c = chosen_is e ls zs l o in
    let t : ltb x 512 ≡ false = grind (arith, nat_tests) in
    let u : ltb y 512 ≡ true = grind (arith, nat_tests) in
    rw (q, t, r, u) at c

pub chosen_none : (e : Bool) (ls : List Link) (x y : ℕ) → length ls ≡ 514 → slice_index (newers ls) 512 ≡ x → 512 ≤ x → slice_index (olders ls) 513 ≡ y → 512 ≤ y →
    (zs : List ℕ) → Ordered e ls zs → None ≡ preferred e zs
chosen_none e ls x y l q h r g zs o =
    let c = chosen_is e ls zs l o in
    let t : ltb x 512 ≡ false = grind (arith, nat_tests) in
    let u : ltb y 512 ≡ false = grind (arith, nat_tests) in
    rw (q, t, r, u) at c

-- what is preferred is a member
last_has : (ys : List ℕ) (p : Place) → Some p ≡ last_of ys → has ys p.0 ≡ true
last_has [] p e = absurd (true≢false (ap is_some e))
last_has (y ∷ []) p e = let q : p.0 ≡ y = ap (λ (o : Option Place). (unwrap_or o p).0) e in rw q (in_head y [])
last_has (y ∷ z ∷ ys) p e = in_tail y (z ∷ ys) p.0 (last_has (z ∷ ys) p e)

last_none : (ys : List ℕ) → None ≡ last_of ys → ys ≡ []
last_none [] e = refl
last_none (y ∷ []) e = absurd (false≢true (ap is_some e))
last_none (y ∷ z ∷ ys) e = let q = last_none (z ∷ ys) e in absurd (true≢false (sym (in_head z ys) ∙ ap (λ (l : List ℕ). has l z) q))

first_has : (xs ys : List ℕ) (p : Place) → Some p ≡ first_of xs (last_of ys) → (has xs p.0 ≡ true) ⊎ (has ys p.0 ≡ true)
first_has [] ys p e = inr (last_has ys p e)
first_has (x ∷ xs) ys p e = let q : p.0 ≡ x = ap (λ (o : Option Place). (unwrap_or o p).0) e in inl (rw q (in_head x xs))

first_none : (xs ys : List ℕ) → None ≡ first_of xs (last_of ys) → (xs ≡ []) × (ys ≡ [])
first_none [] ys e = (refl, last_none ys e)
first_none (x ∷ xs) ys e = absurd (false≢true (ap is_some e))

preferred-has : (e : Bool) (zs : List ℕ) (p : Place) → Some p ≡ preferred e zs → has zs p.0 ≡ true
preferred-has e zs p q =
    elim (first_has (filter (controlled e) zs) (filter (uncontrolled e) zs) p q) [
      | inl h ↦ (kept_in (controlled e) zs p.0 h).0
      | inr h ↦ (kept_in (uncontrolled e) zs p.0 h).0
    ]

preferred_none : (e : Bool) (zs : List ℕ) → None ≡ preferred e zs → (k : ℕ) → has zs k ≡ false
preferred_none e zs q k = go (has zs k) (controlled e k) refl refl
  where
    both : (filter (controlled e) zs ≡ []) × (filter (uncontrolled e) zs ≡ [])
    both = first_none (filter (controlled e) zs) (filter (uncontrolled e) zs) q

    go : (b c : Bool) → has zs k ≡ b → controlled e k ≡ c → b ≡ false
    go false c h t = refl
    go true true h t = absurd (true≢false (sym (in_kept (controlled e) zs k h t) ∙ ap (λ (l : List ℕ). has l k) both.0))
    go true false h t = let u : uncontrolled e k ≡ true = rw t in absurd (true≢false (sym (in_kept (uncontrolled e) zs k h u) ∙ ap (λ (l : List ℕ). has l k) both.1))

pub member_of : (e : Bool) (ls : List Link) (r : Option Place) → InOrder e ls → ((zs : List ℕ) → Ordered e ls zs → r ≡ preferred e zs) → Chosen (marks ls) r
member_of e ls None t f = λ k. ∥∥₁_elim t (Coded-set coded_bool _ _) (λ z. z.1.0 k ∙ preferred_none e z.0 (f z.0 z.1) k)
member_of e ls (Some p) t f = ∥∥₁_elim t (Coded-set coded_bool _ _) (λ z. z.1.0 p.0 ∙ preferred-has e z.0 p (f z.0 z.1))
