-- What is written is read back.
use Rattle.std.proofs.Common.{◌≡◌, ℕ, ◌+◌, ◌*◌, ◌/◌, ◌%◌, ◌<◌, ◌≤◌, Bool, true, false, cond, ◌&&◌, leb, List, ◌∷◌, length, Some, None, Ok, Err, Option, Result, sym, refl, ◌∙◌, inl, true≢false, arith, length-set}
use Rattle.std.proofs.lemmas.Bool.Decides.{nat_tests}
use Rattle.std.proofs.lemmas.Option.{none-some}
use Rattle.status.proofs.Cleared.{cleared_same}
use Rattle.status.proofs.Names.{count_same}
use Rattle.status.specs.Bits.{octets_for, cleared}
use Rattle.status.specs.Circuits.{cic_of}
use Rattle.status.specs.Parameter as group
use Rattle.message.proofs.Formats.{decode_long}
use Rattle.message.proofs.Listed.{kind_of_type}
use Rattle.message.proofs.Rows.{said_laid}
use Rattle.message.specs.Decode.{decode, limited, laid_out_as, within}
use Rattle.message.specs.Encode.{encode, encode_rest, plain, sized, refusal_of, type_in}
use Rattle.message.specs.Msg.{Msg, single, release_complete, group_reset, group_reset_ack, grouped, release, call, cic_in, kind_in}
use Rattle.message.specs.declared.fault.MessageFault.{MessageFault}
use Rattle.message.specs.declared.fault.MessageFault.TheVariants.{Layout, Limit}

length-cleared : (r : ℕ) (s : List ℕ) → length (cleared r s) ≡ length s
length-cleared r s = simp length-set

-- the limits do not look at spare bits
group_within : (n r : ℕ) (s : List ℕ) → group.within n r (cleared r s) ≡ group.within n r s
group_within n r s = let e = count_same s (cleared r s) r (cleared_same r s) in rw (← e)

pub within-plain : (m : Msg) → within (plain m) ≡ within m
within-plain (single c k) = refl
within-plain (release_complete c) = refl
within-plain (group_reset c r) = refl
within-plain (group_reset_ack c r s) = group_within 31 r s
within-plain (grouped c k i r s) = rw (group_within 255 r s)
within-plain (release c x) = refl
within-plain (call c k x) = refl

-- the indicator has two bits
abbrev pub Indicated : Msg → Type 0
Indicated (single c k) = Unit {0}
Indicated (release_complete c) = Unit {0}
Indicated (group_reset c r) = Unit {0}
Indicated (group_reset_ack c r s) = Unit {0}
Indicated (grouped c k i r s) = i < 4
Indicated (release c x) = Unit {0}
Indicated (call c k x) = Unit {0}

pub indicated_within : (m : Msg) → within m ≡ true → Indicated m
indicated_within (single c k) w = tt
indicated_within (release_complete c) w = tt
indicated_within (group_reset c r) w = tt
indicated_within (group_reset_ack c r s) w = tt
indicated_within (grouped c k i r s) w = grind (arith, nat_tests)
indicated_within (release c x) w = tt
indicated_within (call c k x) w = tt

-- a message whose parts have their sizes is laid out as itself
laid_plain : (m : Msg) → Indicated m → sized m ≡ true → laid_out_as (kind_in m) (cic_in m) (encode_rest m) ≡ Some (plain m)
laid_plain (single c k) j z = refl
laid_plain (release_complete c) j z = refl
laid_plain (group_reset c r) j z = refl
laid_plain (group_reset_ack c r s) j z = said_laid (group_reset_ack c r (cleared r s)) _ (_, (length-cleared r s ∙ grind (arith, nat_tests), refl), refl)
laid_plain (grouped c k i r s) j z =
    let e : i + 4 * 0 ≡ i = omega arith in
    said_laid (grouped c k i r (cleared r s)) (i ∷ 1 ∷ (1 + octets_for r) ∷ r ∷ cleared r s) (0, ((1 + octets_for r) ∷ r ∷ cleared r s), j, (length-cleared r s ∙ grind (arith, nat_tests), refl), rw e)
laid_plain (release c x) j z = said_laid (release c x) _ (grind (arith, nat_tests), inl refl)
laid_plain (call c k x) j z = said_laid (call c k x) _ (grind (arith, nat_tests), refl)

-- any other has no layout
laid_none : (m : Msg) → sized m ≡ false → laid_out_as (kind_in m) (cic_in m) (encode_rest m) ≡ None
laid_none (single c k) z = absurd (true≢false z)
laid_none (release_complete c) z = absurd (true≢false z)
laid_none (group_reset c r) z = absurd (true≢false z)
laid_none (group_reset_ack c r s) z = let l = length-cleared r s in grind (arith, nat_tests)
laid_none (grouped c k i r s) z = let l = length-cleared r s in grind (arith, nat_tests)
laid_none (release c x) z = grind (arith, nat_tests)
laid_none (call c k x) z = grind (arith, nat_tests)

-- what is written is read by the layout of its kind
decode-encode : (m : Msg) → cic_in m ≤ 4095 → decode (encode m) ≡ limited (type_in m) (laid_out_as (kind_in m) (cic_in m) (encode_rest m))
decode-encode m h =
    let c : cic_of (cic_in m % 256) (cic_in m / 256) ≡ cic_in m = omega arith in
    decode_long (encode m) (omega arith) ∙ rw (c, kind_of_type (kind_in m))

-- the outcome of reading what is written, by the tests of writing
abbrev pub reread : Msg → Option MessageFault → Result Msg MessageFault
reread m None = Ok (plain m)
reread m (Some f) = Err f

by_tests : (m : Msg) → Indicated m → cic_in m ≤ 4095 → (z w : Bool) → sized m ≡ z → within m ≡ w → decode (encode m) ≡ reread m (refusal_of m)
by_tests m j h false w p q = decode-encode m h ∙ rw (laid_none m p, p)
by_tests m j h true true p q =
    let b : leb (cic_in m) 4095 ≡ true = grind (arith, nat_tests) in
    decode-encode m h ∙ rw (laid_plain m j p, within-plain m, q, p, b)
by_tests m j h true false p q =
    let b : leb (cic_in m) 4095 ≡ true = grind (arith, nat_tests) in
    decode-encode m h ∙ rw (laid_plain m j p, within-plain m, q, p, b)

pub reads_back : (m : Msg) → Indicated m → cic_in m ≤ 4095 → decode (encode m) ≡ reread m (refusal_of m)
reads_back m j h = by_tests m j h _ _ refl refl

-- no test refuses
all_pass : (z b w : Bool) (t : ℕ) → ◌≡◌ {A = Option MessageFault} (cond z (cond (b && w) None (Some (Limit t))) (Some (Layout t))) None →
    (z ≡ true) × (b ≡ true) × (w ≡ true)
all_pass true true true t e = (refl, refl, refl)
all_pass true true false t e = absurd (none-some _ (sym e))
all_pass true false w t e = absurd (none-some _ (sym e))
all_pass false b w t e = absurd (none-some _ (sym e))

-- a message that may be written keeps the limits
pub may_write : (m : Msg) → refusal_of m ≡ None → (cic_in m ≤ 4095) × (within m ≡ true) × (sized m ≡ true)
may_write m e =
    let p = all_pass (sized m) (leb (cic_in m) 4095) (within m) (type_in m) e in
    let b = p.1 in
    (grind (arith, nat_tests), p.2, p.0)

pub written_back : (m : Msg) → refusal_of m ≡ None → decode (encode m) ≡ Ok (plain m)
written_back m e =
    let p = may_write m e in
    reads_back m (indicated_within m p.1) p.0 ∙ rw e
