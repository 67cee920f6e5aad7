-- The last update on each place decides.
use Rattle.std.proofs.Common.{◌≡◌, ℕ, ◌+◌, ◌<◌, Bool, true, false, cond, eqb, ◌≢◌, List, [], ◌∷◌, ◌++◌, length, get_or, take, set, sym, refl, ap, ◌∙◌, subst, inl, inr, arith, length-set, get_or-set_other, get_or-set_same}
use Rattle.std.proofs.lemmas.List.{take_more}
use Rattle.std.proofs.lemmas.Bool.Decides.{eqb_tells}
use Rattle.policy.specs.Sets.{Follows, updated, after, mark_after, last_update}
use Rattle.policy.specs.declared.interface.Update.{Update}
use Rattle.policy.specs.declared.interface.Update.TheVariants.{Offer, Withdraw}

-- updates, and then others
pub follows_append : {P : Type 0} (obeys : Update → P → P → Type 0) (us vs : List Update) (p m q : P)
    → Follows obeys us p m → Follows obeys vs m q → Follows obeys (us ++ vs) p q
follows_append obeys [] vs p m q e f = subst (λ x. Follows obeys vs x q) (sym e) f
follows_append obeys (u ∷ us) vs p m q (n, o, e) f = (n, o, follows_append obeys us vs n m q e f)

-- where the i-th update is u
pub follows_next : {P : Type 0} (obeys : Update → P → P → Type 0) (us : List Update) (i : ℕ) (d u : Update) (p m q : P)
    → i < length us → get_or us i d ≡ u → Follows obeys (take i us) p m → obeys u m q → Follows obeys (take (i + 1) us) p q
follows_next obeys us i d u p m q l e f o =
    rw (take_more us i d l, e) (follows_append obeys (take i us) (u ∷ []) p m q f (q, o, refl))

-- one update more
after_push : (us : List Update) (u : Update) (h : List Bool) → after (us ++ u ∷ []) h ≡ updated u (after us h)
after_push [] u h = refl
after_push (v ∷ us) u h = after_push us u (updated v h)

after_more : (us : List Update) (i : ℕ) (d : Update) (h : List Bool) → i < length us → after (take (i + 1) us) h ≡ updated (get_or us i d) (after (take i us) h)
after_more us i d h l = ap (λ (vs : List Update). after vs h) (take_more us i d l) ∙ after_push (take i us) (get_or us i d) h

-- where the i-th update is u
pub updated_next : (us : List Update) (i : ℕ) (d u : Update) (h : List Bool) → i < length us → get_or us i d ≡ u → updated u (after (take i us) h) ≡ after (take (i + 1) us) h
updated_next us i d u h l e = sym (after_more us i d h l ∙ ap (λ (v : Update). updated v (after (take i us) h)) e)

-- a mark that is set at p, read at k
read_mark : (h : List Bool) (p k : ℕ) (b : Bool) → k < length h → get_or (set h p b) k false ≡ cond (eqb p k) b (get_or h k false)
read_mark h p k b l =
    elim (eqb_tells p k) [
      | inl q ↦ rw (q.0, q.1, get_or-set_same)
      | inr q ↦ let ne : k ≢ p = λ e. q.1 (sym e) in rw (q.0, get_or-set_other)
    ]

updated-length : (u : Update) (h : List Bool) → length (updated u h) ≡ length h
updated-length (Offer p) h = simp length-set
updated-length (Withdraw p) h = simp length-set

updated_mark : (u : Update) (h : List Bool) (k : ℕ) → k < length h → get_or (updated u h) k false ≡ mark_after u k (get_or h k false)
updated_mark (Offer p) h k l = read_mark h p.0 k true l
updated_mark (Withdraw p) h k l = read_mark h p.0 k false l

pub last_decides : (us : List Update) (h : List Bool) (k : ℕ) → k < length h → get_or (after us h) k false ≡ last_update us k (get_or h k false)
last_decides [] h k l = refl
last_decides (u ∷ us) h k l =
    let n = updated-length u h in
    last_decides us (updated u h) k (omega arith) ∙ ap (last_update us k) (updated_mark u h k l)
