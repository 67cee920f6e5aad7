-- Reading accepts exactly what represents a message.
use Rattle.std.proofs.Common.{◌≡◌, ℕ, ◌+◌, ◌*◌, ◌/◌, ◌%◌, ◌<◌, ◌≤◌, Bool, true, false, cond, ltb, List, [], ◌∷◌, ◌++◌, length, get_or, drop, Some, None, Ok, Err, Option, Result, sym, refl, ap, ◌∙◌, inl, inr, true≢false, arith}
use Rattle.std.proofs.lemmas.Bool.{cases_lt}
use Rattle.std.proofs.lemmas.Bool.Decides.{nat_tests}
use Rattle.status.proofs.Bits.{set_few}
use Rattle.status.specs.Circuits.{cic_of}
use Rattle.message.proofs.Listed.{kind_of_type, type_of_kind, unlisted, listed}
use Rattle.message.proofs.Lists.{first_three}
use Rattle.message.proofs.Rows.{laid_said, said_laid}
use Rattle.message.specs.Decode.{decode, decode_rest, laid_out_as, within}
use Rattle.message.specs.Encode.{type_in}
use Rattle.message.specs.Format.{LaidOut, Limits, Represents}
use Rattle.message.specs.Laws.{Typed, Listed, Because}
use Rattle.message.specs.Msg.{Msg, single, release_complete, group_reset, group_reset_ack, grouped, release, call, cic_in, kind_in}
use Rattle.message.specs.declared.kinds.Kind.{Kind}
use Rattle.message.specs.Types.{kind_of, type_of}
use Rattle.message.specs.declared.fault.MessageFault.{MessageFault}
use Rattle.message.specs.declared.fault.MessageFault.TheVariants.{NoRoom, Short, Unknown, Layout, Limit}

-- the limits that are tested are those that are said
pub limits_said : (m : Msg) → within m ≡ true → Limits m
limits_said (single c k) t = tt
limits_said (release_complete c) t = tt
limits_said (group_reset c r) t = (grind (arith, nat_tests), grind (arith, nat_tests))
limits_said (group_reset_ack c r s) t = (grind (arith, nat_tests), grind (arith, nat_tests))
limits_said (grouped c k i r s) t = (grind (arith, nat_tests), grind (arith, nat_tests), grind (arith, nat_tests), grind (arith, nat_tests))
limits_said (release c x) t = tt
limits_said (call c k x) t = tt

pub limits_kept : (m : Msg) → Limits m → within m ≡ true
limits_kept (single c k) l = refl
limits_kept (release_complete c) l = refl
limits_kept (group_reset c r) l = grind (arith, nat_tests)
limits_kept (group_reset_ack c r s) l = let few = set_few s (r + 1) in grind (arith, nat_tests)
limits_kept (grouped c k i r s) l = grind (arith, nat_tests)
limits_kept (release c x) l = refl
limits_kept (call c k x) l = refl

pub decode_short : (xs : List ℕ) → length xs < 3 → decode xs ≡ Err Short
decode_short xs h = grind (arith, nat_tests)

pub decode_long : (xs : List ℕ) → 3 ≤ length xs → decode xs ≡ decode_rest (get_or xs 2 0) (cic_of (get_or xs 0 0) (get_or xs 1 0)) (drop 3 xs)
decode_long xs h = let b : ltb (length xs) 3 ≡ false = grind (arith, nat_tests) in rw b

-- octets of the layout are read as the message, or are outside its limits
pub laid_decoded : (xs : List ℕ) (m : Msg) → LaidOut xs m → decode xs ≡ cond (within m) (Ok m) (Err (Limit (type_in m)))
laid_decoded xs m (rest, (low, high, spare, h, c, e), f) =
    let k : cic_of low (high + 16 * spare) ≡ cic_in m = omega arith in
    rw (e, decode_long ((low ∷ (high + 16 * spare) ∷ type_in m ∷ []) ++ rest) (omega arith), k, kind_of_type (kind_in m), said_laid m rest f)

-- what xs are to a reader
pub data View (xs : List ℕ) : Type 0 where
  too_short : length xs < 3 → decode xs ≡ Err Short → View xs
  unlisted_type : 3 ≤ length xs → (Listed (get_or xs 2 0) → ⊥) → decode xs ≡ Err (Unknown (get_or xs 2 0)) → View xs
  other_layout : 3 ≤ length xs → Listed (get_or xs 2 0) → decode xs ≡ Err (Layout (get_or xs 2 0)) → View xs
  past_limits : (m : Msg) → LaidOut xs m → within m ≡ false → decode xs ≡ Err (Limit (type_in m)) → View xs
  a_message : (m : Msg) → LaidOut xs m → within m ≡ true → decode xs ≡ Ok m → View xs

view_laid : (xs : List ℕ) (m : Msg) → LaidOut xs m → (b : Bool) → within m ≡ b → View xs
view_laid xs m l true w = a_message m l w (laid_decoded xs m l ∙ rw w)
view_laid xs m l false w = past_limits m l w (laid_decoded xs m l ∙ rw w)

view_of : (xs : List ℕ) → 3 ≤ length xs → (k : Kind) → kind_of (get_or xs 2 0) ≡ Some k → (o : Option Msg) →
    laid_out_as k (cic_of (get_or xs 0 0) (get_or xs 1 0)) (drop 3 xs) ≡ o → View xs
view_of xs h k e None l = other_layout h (k, type_of_kind (get_or xs 2 0) k e) (decode_long xs h ∙ rw (e, l))
view_of xs h k e (Some m) l =
    let r = laid_said k (cic_of (get_or xs 0 0) (get_or xs 1 0)) (drop 3 xs) m l in
    let t : get_or xs 2 0 ≡ type_in m = sym (type_of_kind (get_or xs 2 0) k e) ∙ ap type_of (sym r.0) in
    let s : get_or xs 1 0 ≡ get_or xs 1 0 % 16 + 16 * (get_or xs 1 0 / 16) = omega arith in
    view_laid xs m (drop 3 xs, (get_or xs 0 0, get_or xs 1 0 % 16, get_or xs 1 0 / 16, omega arith, r.1 ∙ omega arith, first_three xs h ∙ rw (← s, t)), r.2) _ refl

pub view : (xs : List ℕ) → View xs
view xs =
    elim (cases_lt (length xs) 3) [
      | inl h ↦ too_short h (decode_short xs h)
      | inr h ↦ elim (listed (get_or xs 2 0)) [
        | inl p ↦ view_of xs h p.0 p.1 _ refl
        | inr e ↦ unlisted_type h (λ p. unlisted (get_or xs 2 0) e p.0 p.1) (decode_long xs h ∙ rw e)
      ]
    ]

-- octets of a layout have a listed type
laid_typed : (xs : List ℕ) (m : Msg) → LaidOut xs m → Typed xs (type_in m)
laid_typed xs m (rest, (low, high, spare, h, c, e), f) = rw e (omega arith, refl)

laid_listed : (xs : List ℕ) (m : Msg) → LaidOut xs m → Listed (get_or xs 2 0)
laid_listed xs m l = (kind_in m, sym (laid_typed xs m l).1)

not_within : (m : Msg) → within m ≡ false → Limits m → ⊥
not_within m w l = true≢false (sym (limits_kept m l) ∙ w)

-- the octets of a layout are not refused for it
layout_held : (xs : List ℕ) (t : ℕ) → decode xs ≡ Err (Layout t) → (m : Msg) → LaidOut xs m → ⊥
layout_held xs t p m l = go (within m) (laid_decoded xs m l)
  where
    go : (b : Bool) → decode xs ≡ cond b (Ok m) (Err (Limit (type_in m))) → ⊥
    go true d = let z : ◌≡◌ {A = ℕ} 0 1 = cc in omega arith
    go false d = let z : ◌≡◌ {A = ℕ} 0 1 = cc in omega arith

-- each outcome has its cause
pub caused : (xs : List ℕ) → View xs → Because xs (decode xs)
caused xs (too_short h d) = rw d h
caused xs (unlisted_type h u d) = rw d ((h, refl), u)
caused xs (other_layout h l d) = let n = layout_held xs (get_or xs 2 0) d in rw d ((h, refl), l, n)
caused xs (past_limits m l w d) = rw d (m, refl, l, not_within m w)
caused xs (a_message m l w d) = rw d (l, limits_said m w)

unknown_refused : (xs : List ℕ) (t : ℕ) → View xs → Typed xs t × (Listed t → ⊥) → decode xs ≡ Err (Unknown t)
unknown_refused xs t (too_short h d) (y, u) = absurd (omega arith)
unknown_refused xs t (unlisted_type h v d) (y, u) = d ∙ rw y.1
unknown_refused xs t (other_layout h l d) (y, u) = absurd (u (rw y.1 at l))
unknown_refused xs t (past_limits n l w d) (y, u) = let k = laid_listed xs n l in absurd (u (rw y.1 at k))
unknown_refused xs t (a_message n l w d) (y, u) = let k = laid_listed xs n l in absurd (u (rw y.1 at k))

layout_refused : (xs : List ℕ) (t : ℕ) → View xs → Typed xs t × Listed t × ((m : Msg) → LaidOut xs m → ⊥) → decode xs ≡ Err (Layout t)
layout_refused xs t (too_short h d) (y, k, n) = absurd (omega arith)
layout_refused xs t (unlisted_type h u d) (y, k, n) = absurd (u (rw (← y.1) at k))
layout_refused xs t (other_layout h l d) (y, k, n) = d ∙ rw y.1
layout_refused xs t (past_limits m l w d) (y, k, n) = absurd (n m l)
layout_refused xs t (a_message m l w d) (y, k, n) = absurd (n m l)

limit_refused : (xs : List ℕ) (t : ℕ) → Because xs (Err (Limit t)) → decode xs ≡ Err (Limit t)
limit_refused xs t (m, e, l, n) = go (within m) refl
  where
    go : (b : Bool) → within m ≡ b → decode xs ≡ Err (Limit t)
    go true w = absurd (n (limits_said m w))
    go false w = laid_decoded xs m l ∙ rw (w, e)

-- and each cause its outcome
pub follows_from : (xs : List ℕ) (o : Result Msg MessageFault) → Because xs o → decode xs ≡ o
follows_from xs (Ok m) (l, k) = laid_decoded xs m l ∙ rw (limits_kept m k)
follows_from xs (Err NoRoom) q = absurd q
follows_from xs (Err Short) h = decode_short xs h
follows_from xs (Err (Unknown t)) q = unknown_refused xs t (view xs) q
follows_from xs (Err (Layout t)) q = layout_refused xs t (view xs) q
follows_from xs (Err (Limit t)) q = limit_refused xs t q

pub one_message : (xs : List ℕ) (m n : Msg) → Represents xs m → Represents xs n → m ≡ n
one_message xs m n p q =
    let a = follows_from xs (Ok m) p in
    let b = follows_from xs (Ok n) q in
    cc
