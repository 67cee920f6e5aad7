-- Who waits for a group reset after a message: all of a PCM system or none, as before.
use Rattle.std.proofs.Common.{◌≡◌, ℕ, ◌-◌, ◌/◌, ◌%◌, Bool, true, false, not, ◌&&◌, eqb, List, None, Option, refl, ap, ◌∙◌, ⊎_elim, arith}
use Rattle.std.proofs.lemmas.Bool.{cases_Bool, eqb-true, and_parts}
use Rattle.status.specs.Bits.{is_named}
use Rattle.message.specs.Msg.{Msg, single, release_complete, group_reset, group_reset_ack, grouped, release, call}
use Rattle.message.specs.declared.kinds.BlockType.{BlockType}
use Rattle.message.specs.declared.kinds.BlockType.TheVariants.{Maintenance, Hardware}
use Rattle.message.specs.declared.kinds.CallKind.TheVariants.{Iam, Acm, Con, Anm, Cpg}
use Rattle.message.specs.declared.kinds.Grouped.{Grouped}
use Rattle.message.specs.declared.kinds.Grouped.TheVariants.{Cgb, Cgu, Cgba, Cgua}
use Rattle.message.specs.declared.kinds.Single.TheVariants.{Rsc, Blo, Ubl, Bla, Uba}
use Rattle.circuit.specs.Circuits.{is_group}
use Rattle.circuit.specs.declared.record.Circuit.{Circuit}
use Rattle.supervision.specs.declared.trunk.Config.{Config}
use Rattle.supervision.specs.Moves.{Move}
use Rattle.supervision.specs.Orders.{why_of}
use Rattle.supervision.specs.Trunks.{controls, cic_at, covers, placed}
use Rattle.agreement.proofs.EndLaws.{Shift, shift_of}
use Rattle.agreement.proofs.Event.{when, within, is_whole, of_kind, event, whole_range}
use Rattle.agreement.proofs.Hearing.{HeardAt}
use Rattle.agreement.proofs.Rules.{hear, hears}
use Rattle.agreement.proofs.Signals.{Signal, iam, progress, rel, rlc, blo, bla, ubl, uba, rsc, grs, gra}
use Rattle.agreement.proofs.Standing.{Fitting}

-- but for GRA, a message leaves it as it was
when_steady : (x b : Bool) (m : Signal) (c : Circuit) → ((y : Bool) → is_group (hear y m c).circuit.reset ≡ is_group c.reset)
    → is_group (hears x (when b m) c).circuit.reset ≡ is_group c.reset
when_steady x true m c h = h x
when_steady x false m c h = refl

iam_steady : (y : Bool) (c : Circuit) → is_group (hear y iam c).circuit.reset ≡ is_group c.reset
iam_steady y c = grind arith

rlc_steady : (y : Bool) (c : Circuit) → is_group (hear y rlc c).circuit.reset ≡ is_group c.reset
rlc_steady y c = grind arith

call_steady : (y : Bool) (c : Circuit) → is_group (hear y progress c).circuit.reset ≡ is_group c.reset
call_steady y c = grind arith

rel_steady : (y : Bool) (c : Circuit) → is_group (hear y rel c).circuit.reset ≡ is_group c.reset
rel_steady y c = grind arith

of_kind_steady : (y : Bool) (what : Grouped) (why : BlockType) (c : Circuit) → is_group (hear y (of_kind what why) c).circuit.reset ≡ is_group c.reset
of_kind_steady y Cgb Maintenance c = refl
of_kind_steady y Cgb Hardware c = refl
of_kind_steady y Cgu why c = refl
of_kind_steady y Cgba why c = refl
of_kind_steady y Cgua why c = refl

heard_steady : (t : Config) (E : ℕ → Bool) (T : List Circuit) (m : Move) (e : ℕ → Option Signal) → ((k : ℕ) → E k ≡ true → HeardAt t T m k (e k))
    → ((k : ℕ) (x : Bool) (c : Circuit) → is_group (hears x (e k) c).circuit.reset ≡ is_group c.reset) → Shift E T m
heard_steady t E T m e h s = shift_of E T m (λ k q. ap (λ c. is_group c.reset) (h k q).now ∙ s k (controls t (cic_at t k)) (placed T k))

-- GRA ends the wait of a PCM system, or does nothing
ack_ended : (x y : Bool) (c : Circuit) → is_group (hear x (gra y) c).circuit.reset ≡ false
ack_ended x y c = grind arith

ack_shift : (t : Config) (E : ℕ → Bool) (c r : ℕ) (s : List ℕ) (T : List Circuit) (m : Move) → Fitting t E
    → ((k : ℕ) → E k ≡ true → HeardAt t T m k (event t.first.0 k (group_reset_ack c r s))) → Shift E T m
ack_shift t E c r s T m f h = ⊎_elim
    (λ (w : is_whole t.first.0 c r ≡ true).
    let start = c - t.first.0 in
    let two = and_parts (eqb (start % 32) 1) (eqb r 30) w in
    let one : start % 32 ≡ 1 = eqb-true (start % 32) 1 two.0 in
    let len : r ≡ 30 = eqb-true r 30 two.1 in (
      (λ sys b. not (eqb sys (start / 32)) && b),
      λ k e.
          let bit = is_named r s (k - start) in
          let reach : within t.first.0 c r k ≡ eqb (k / 32) (start / 32) = rw len (whole_range start k one (f.slots k e)) in
          let ctl = controls t (cic_at t k) in
          let ev : event t.first.0 k (group_reset_ack c r s) ≡ when (eqb (k / 32) (start / 32)) (gra bit) = ap (λ b. when (b && within t.first.0 c r k) (gra bit)) w ∙ ap (λ b. when b (gra bit)) reach in
          ap (λ y. is_group y.reset) ((h k e).now ∙ ap (λ v. (hears ctl v (placed T k)).circuit) ev) ∙ ended ctl (eqb (k / 32) (start / 32)) bit (placed T k),
    ))
    (λ (w : is_whole t.first.0 c r ≡ false).
    shift_of E T m (λ k e.
    let bit = is_named r s (k - (c - t.first.0)) in
    let ctl = controls t (cic_at t k) in
    let ev : event t.first.0 k (group_reset_ack c r s) ≡ None = ap (λ b. when (b && within t.first.0 c r k) (gra bit)) w in
    ap (λ y. is_group y.reset) ((h k e).now ∙ ap (λ v. (hears ctl v (placed T k)).circuit) ev)))
    (cases_Bool (is_whole t.first.0 c r))
  where
    ended : (x b y : Bool) (d : Circuit) → is_group (hears x (when b (gra y)) d).circuit.reset ≡ (not b && is_group d.reset)
    ended x true y d = ack_ended x y d
    ended x false y d = refl

pub heard_shift : (t : Config) (E : ℕ → Bool) (msg : Msg) (T : List Circuit) (m : Move) → Fitting t E
    → ((k : ℕ) → E k ≡ true → HeardAt t T m k (event t.first.0 k msg)) → Shift E T m
heard_shift t E (single c Rsc) T m f h = heard_steady t E T m _ h (λ k z x. when_steady z (eqb k (c - t.first.0)) rsc x (λ y. refl))
heard_shift t E (single c Blo) T m f h = heard_steady t E T m _ h (λ k z x. when_steady z (eqb k (c - t.first.0)) blo x (λ y. refl))
heard_shift t E (single c Ubl) T m f h = heard_steady t E T m _ h (λ k z x. when_steady z (eqb k (c - t.first.0)) ubl x (λ y. refl))
heard_shift t E (single c Bla) T m f h = heard_steady t E T m _ h (λ k z x. when_steady z (eqb k (c - t.first.0)) bla x (λ y. refl))
heard_shift t E (single c Uba) T m f h = heard_steady t E T m _ h (λ k z x. when_steady z (eqb k (c - t.first.0)) uba x (λ y. refl))
heard_shift t E (release_complete c) T m f h = heard_steady t E T m _ h (λ k z x. when_steady z (eqb k (c - t.first.0)) rlc x (λ y. rlc_steady y x))
heard_shift t E (release c cause) T m f h = heard_steady t E T m _ h (λ k z x. when_steady z (eqb k (c - t.first.0)) rel x (λ y. rel_steady y x))
heard_shift t E (call c Iam body) T m f h = heard_steady t E T m _ h (λ k z x. when_steady z (eqb k (c - t.first.0)) iam x (λ y. iam_steady y x))
heard_shift t E (call c Acm body) T m f h = heard_steady t E T m _ h (λ k z x. when_steady z (eqb k (c - t.first.0)) progress x (λ y. call_steady y x))
heard_shift t E (call c Con body) T m f h = heard_steady t E T m _ h (λ k z x. when_steady z (eqb k (c - t.first.0)) progress x (λ y. call_steady y x))
heard_shift t E (call c Anm body) T m f h = heard_steady t E T m _ h (λ k z x. when_steady z (eqb k (c - t.first.0)) progress x (λ y. call_steady y x))
heard_shift t E (call c Cpg body) T m f h = heard_steady t E T m _ h (λ k z x. when_steady z (eqb k (c - t.first.0)) progress x (λ y. call_steady y x))
heard_shift t E (grouped c what i r s) T m f h = heard_steady t E T m _ h (λ k z x. when_steady z (covers (c - t.first.0) r s k) (of_kind what (why_of i)) x (λ y. of_kind_steady y what (why_of i) x))
heard_shift t E (group_reset c r) T m f h = heard_steady t E T m _ h (λ k z x. when_steady z (within t.first.0 c r k) grs x (λ y. refl))
heard_shift t E (group_reset_ack c r s) T m f h = ack_shift t E c r s T m f h
