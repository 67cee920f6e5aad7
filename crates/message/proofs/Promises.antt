-- What reading and writing keep.
use Rattle.std.proofs.Common.{◌↔◌, ◌≡◌, ℕ, ◌<◌, Bool, true, false, cond, ltb, leb, List, length, get_or, take, drop, Some, None, Ok, Err, Option, Result, sym, refl, ap, ◌∙◌, subst, arith, take_at}
use Rattle.std.proofs.lemmas.Bool.Decides.{nat_tests}
use Rattle.status.proofs.Cleared.{cleared_spare}
use Rattle.message.proofs.Formats.{view, caused, follows_from, limits_kept, one_message}
use Rattle.message.proofs.RoundTrip.{Indicated, may_write, reads_back, reread, written_back}
use Rattle.message.specs.Decode.{decode, within}
use Rattle.message.specs.Encode.{encode, sized, refusal_of, written, unless_refused, leaves}
use Rattle.message.specs.Format.{Follows, Represents}
use Rattle.message.specs.Laws.{Because, Reads, SpareStatus, Writes}
use Rattle.message.specs.Meaning.{meaning}
use Rattle.message.specs.declared.content.Message.{Message}
use Rattle.message.specs.declared.content.Message.TheVariants as m
use Rattle.message.specs.declared.kinds.BlockType.TheVariants.{Maintenance, Hardware}
use Rattle.message.specs.Msg.{Msg, single, release_complete, group_reset, group_reset_ack, grouped, release, call, cic_in}
use Rattle.message.specs.declared.fault.MessageFault.{MessageFault}
use Rattle.message.specs.declared.fault.MessageFault.TheVariants.{NoRoom}

-- the parts of a message that was read have their sizes
follows_sized : (m : Msg) (xs : List ℕ) → Follows m xs → sized m ≡ true
follows_sized (single c k) xs f = refl
follows_sized (release_complete c) xs f = refl
follows_sized (group_reset c r) xs f = refl
follows_sized (group_reset_ack c r s) xs (p, q, e) = let l = q.0 in grind (arith, nat_tests)
follows_sized (grouped c k i r s) xs (j, p, h, q, e) = let l = q.0 in grind (arith, nat_tests)
follows_sized (release c x) xs (n, e) = grind (arith, nat_tests)
follows_sized (call c k x) xs (h, e) = grind (arith, nat_tests)

-- what is read may be written
pub read_writable : (xs : List ℕ) (m : Msg) → get_or xs 0 0 < 256 → Represents xs m → refusal_of m ≡ None
read_writable xs m o ((rest, (low, high, spare, h, c, e), f), l) =
    let a : get_or xs 0 0 ≡ low = rw e in
    let b : leb (cic_in m) 4095 ≡ true = grind (arith, nat_tests) in
    rw (follows_sized m rest f, b, limits_kept m l)

pub reads_law : (xs : List ℕ) (r : Result Msg MessageFault) → get_or xs 0 0 < 256 → r ≡ decode xs → Reads xs r
reads_law xs r o e =
    let may : (m : Msg) → r ≡ Ok m → refusal_of m ≡ None = λ m p. read_writable xs m o (subst (Because xs) (sym e ∙ p) (caused xs (view xs))) in
    record {
      because = λ q. ((λ p. subst (Because xs) (sym e ∙ p) (caused xs (view xs))), λ b. e ∙ follows_from xs q b);
      single = one_message xs;
      again = λ m p. (may m p, written_back m (may m p));
    }

-- an accepted message was written whole
written_whole : (w : List ℕ) (f : Option MessageFault) (k n : ℕ) → written w f k ≡ Ok n → (f ≡ None) × (n ≡ length w)
written_whole w f k n e = go (ltb k (length w)) f e
  where
    go : (b : Bool) (g : Option MessageFault) → cond b (Err NoRoom) (unless_refused w g) ≡ Ok n → (g ≡ None) × (n ≡ length w)
    go true g p = let z : ◌≡◌ {A = ℕ} 0 1 = cc in absurd (omega arith)
    go false None p = (refl, cc)
    go false (Some x) p = let z : ◌≡◌ {A = ℕ} 0 1 = cc in absurd (omega arith)

spare_status : (m : Msg) → sized m ≡ true → within m ≡ true → SpareStatus m (encode m)
spare_status (single c k) z w = tt
spare_status (release_complete c) z w = tt
spare_status (group_reset c r) z w = tt
spare_status (group_reset_ack c r s) z w = cleared_spare r s (grind (arith, nat_tests))
spare_status (grouped c k i r s) z w = (grind (arith, nat_tests), cleared_spare r s (grind (arith, nat_tests)))
spare_status (release c x) z w = tt
spare_status (call c k x) z w = tt

-- with room, writing refuses what reading would
same_refusal : (m : Msg) (f : MessageFault) → (o : Option MessageFault) → decode (encode m) ≡ reread m o →
    ((unless_refused (encode m) o ≡ Err f) ↔ (decode (encode m) ≡ Err f))
same_refusal m f None e =
    ((λ p. let z : ◌≡◌ {A = ℕ} 0 1 = cc in absurd (omega arith)), λ q. let z : ◌≡◌ {A = ℕ} 0 1 = cc in absurd (omega arith))
same_refusal m f (Some g) e = ((λ p. cc), λ q. cc)

-- a blocking type is an indicator
pub meant : (x : Message) → Indicated (meaning x)
meant (m.Single c k) = tt
meant (m.ReleaseComplete c) = tt
meant (m.GroupReset c r) = tt
meant (m.GroupResetAck c g) = tt
meant (m.Grouped c k Maintenance g) = omega arith
meant (m.Grouped c k Hardware g) = omega arith
meant (m.Release c x) = tt
meant (m.Call c k x) = tt

-- the octets of an accepted message stand at the front
whole_front : (m : Msg) (before after : List ℕ) (r : Result ℕ MessageFault) → r ≡ written (encode m) (refusal_of m) (length before) →
    after ≡ leaves (encode m) before r → (n : ℕ) → r ≡ Ok n → (refusal_of m ≡ None) × (take n after ≡ encode m)
whole_front m before after r e a n p =
    let w = written_whole (encode m) (refusal_of m) (length before) n (sym e ∙ p) in
    (w.0, ap (take n) (a ∙ ap (leaves (encode m) before) p) ∙ take_at (encode m) (drop n before) n (sym w.1))

pub writes_law : (m : Msg) (before after : List ℕ) (r : Result ℕ MessageFault) → Indicated m →
    r ≡ written (encode m) (refusal_of m) (length before) → after ≡ leaves (encode m) before r → Writes m before r after
writes_law m before after r j e a =
    record {
      back = λ n p.
          let w = whole_front m before after r e a n p in
          let may = may_write m w.0 in
          rw w.1 (written_back m w.0, (omega (arith, may.0), spare_status m may.2 may.1));
      refuses = λ h l f.
          let b : ltb (length before) (length (encode m)) ≡ false = grind (arith, nat_tests) in
          let u : r ≡ unless_refused (encode m) (refusal_of m) = e ∙ rw b in
          rw u (same_refusal m f (refusal_of m) (reads_back m j h));
      alike = λ n p o q s.
          let w = whole_front m before after r e a n p in
          let x = written_back m w.0 in
          let y = written_back o q in
          let z : encode o ≡ encode m = s ∙ w.1 in
          cc;
    }
