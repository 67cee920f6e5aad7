-- The cause of a release is read as it was ordered.
use Rattle.std.proofs.Common.{◌≡◌, ℕ, ◌+◌, ◌%◌, ◌≤◌, false, not, ◌||◌, ltb, List, [], ◌∷◌, Some, Ok, Result, sym, ap, subst, arith}
use Rattle.std.proofs.lemmas.Bool.{or_parts}
use Rattle.std.proofs.lemmas.Bool.Decides.{nat_tests}
use Rattle.status.specs.declared.cic.Cic.{Cic}
use Rattle.message.specs.Causes.{location_in, value_in}
use Rattle.message.specs.Msg.{release}
use Rattle.circuit.specs.Laws.{allows}
use Rattle.circuit.specs.declared.record.CauseOctets.{CauseOctets}
use Rattle.circuit.specs.declared.rules.Rule.TheVariants as rule
use Rattle.refusal.specs.declared.reasons.Refusal.{Refusal}
use Rattle.refusal.specs.declared.reasons.Refusal.TheVariants.{Address, Argument, State}
use Rattle.supervision.specs.declared.trunk.Config.{Config}
use Rattle.supervision.specs.Lending.{Lent}
use Rattle.supervision.specs.Moves.{Move}
use Rattle.supervision.specs.Orders.{admitted, cause_of, circuit_of, releasing}
use Rattle.supervision.proofs.Allowing.{past, and_ok, same_move}

not_more : (n k : ℕ) → ltb n k ≡ false → k ≤ n
not_more n k e = grind (arith, nat_tests)

low_four : (n : ℕ) → n ≤ 15 → (0x80 + n) % 16 ≡ n
low_four n l = omega (arith, l)

low_seven : (n : ℕ) → n ≤ 127 → (0x80 + n) % 128 ≡ n
low_seven n l = omega (arith, l)

same_cause : (x y : CauseOctets) → ◌≡◌ {A = Result CauseOctets Refusal} (Ok x) (Ok y) → x ≡ y
same_cause x y e = cc

pub cause_read : (t : Config) (room : ℕ) (cic : Cic) (location value : ℕ) (l : Lent) (m : Move) → releasing t room cic location value l ≡ Ok m
    → (x : List ℕ) × (m.sent ≡ release cic.0 x ∷ []) × (location_in x ≡ Some location) × (value_in x ≡ Some value)
cause_read t room cic location value l m h =
    let a = and_ok (admitted t room l) _ m h in
    let c = and_ok (cause_of location value) _ m a.2 in
    let p = past (ltb 15 location || ltb 127 value) Argument _ c.0 c.1 in
    let b = or_parts (ltb 15 location) (ltb 127 value) p.0 in
    let octets = (0x80 + location) ∷ (0x80 + value) ∷ [] in
    let kept : c.0.location_octet ∷ c.0.value_octet ∷ [] ≡ octets = ap (λ (x : CauseOctets). x.location_octet ∷ x.value_octet ∷ []) (sym (same_cause _ c.0 p.1)) in
    let x = circuit_of t cic l.table in
    let found = past (not x.equipped) Address _ m c.2 in
    let fit = past (not (allows (rule.Release c.0) x)) State _ m found.1 in
    let sent = ap (λ (y : Move). y.sent) (sym (same_move _ m fit.1)) in (
      octets,
      subst (λ xs. m.sent ≡ release cic.0 xs ∷ []) kept sent,
      ap Some (low_four location (not_more 15 location b.0)),
      ap Some (low_seven value (not_more 127 value b.1)),
    )
