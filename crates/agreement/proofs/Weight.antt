-- The further requests that may come of a message, as one circuit sees it. A request is BLO, UBL, RSC, REL, CGB, CGU or GRS; a further one is
-- sent in reply to a message, but for the answer to that. Receiving settles since these get fewer: they depend only on which local
-- blocks stand, which no message changes, and on the calls.
use Rattle.std.proofs.Common.{◌≡◌, ℕ, ◌+◌, ◌≤◌, Bool, true, false, cond, not, List, [], ◌∷◌, arith}
use Rattle.message.specs.declared.kinds.BlockType.{BlockType}
use Rattle.message.specs.declared.kinds.BlockType.TheVariants.{Maintenance, Hardware}
use Rattle.circuit.specs.Circuits.{block_of, is_connected, is_none, is_standing}
use Rattle.circuit.specs.declared.record.Circuit.{Circuit}
use Rattle.supervision.specs.Receiving.{is_unexpected}
use Rattle.supervision.proofs.Bits.{bit_of}
use Rattle.agreement.proofs.Rules.{hear, answers}
use Rattle.agreement.proofs.Signals.{Signal, iam, progress, rel, rlc, blo, bla, ubl, uba, rsc, grs, cgb, cgu, cgba, cgua, gra}

-- a local block of this type stands
abbrev pub stands : BlockType → Circuit → Bool
stands why c = is_standing (block_of why c.local)

-- the further requests that a message may cause, from a circuit s to a circuit r
abbrev pub weight : Circuit → Circuit → Signal → ℕ
weight s r iam = 1
weight s r blo = bit_of (not (stands Maintenance s))
weight s r bla = bit_of (not (stands Maintenance r))
weight s r ubl = bit_of (stands Maintenance s)
weight s r uba = bit_of (stands Maintenance r)
weight s r rsc = bit_of (stands Maintenance r) + bit_of (stands Hardware r)
weight s r grs = bit_of (stands Hardware r)
weight s r (cgb why) = bit_of (not (stands why s))
weight s r (cgba why) = bit_of (not (stands why r))
weight s r (cgu why) = bit_of (stands why s)
weight s r (cgua why) = bit_of (stands why r)
weight s r m = 0

-- those that a call may cause: an RLC on a calling or talking circuit is answered by REL
abbrev pub in_call : Circuit → ℕ
in_call c = bit_of (is_connected c.call)

-- the further requests that are sent at once
abbrev pub further : Signal → Circuit → ℕ
further rlc c = bit_of (is_unexpected c)
further bla c = bit_of (is_none c.local.maintenance)
further uba c = bit_of (stands Maintenance c)
further rsc c = bit_of (stands Maintenance c) + bit_of (stands Hardware c)
further grs c = bit_of (stands Hardware c)
further (cgba why) c = bit_of (is_none (block_of why c.local))
further (cgua why) c = bit_of (stands why c)
further m c = 0

abbrev pub weights : Circuit → Circuit → List Signal → ℕ
weights s r [] = 0
weights s r (m ∷ l) = weight s r m + weights s r l

-- no message changes which blocks stand
pub still_stands : (why : BlockType) (b : Bool) (m : Signal) (c : Circuit) → stands why (hear b m c).circuit ≡ stands why c
still_stands why b iam c = search arith
still_stands why b progress c = search arith
still_stands why b rel c = search arith
still_stands why b rlc c = search arith
still_stands why b blo c = search arith
still_stands why b bla c = search arith
still_stands why b ubl c = search arith
still_stands why b uba c = search arith
still_stands why b rsc c = search arith
still_stands why b grs c = search arith
still_stands why b (cgb x) c = search arith
still_stands why b (cgu x) c = search arith
still_stands why b (cgba x) c = search arith
still_stands why b (cgua x) c = search arith
still_stands why b (gra x) c = search arith

-- a calling or talking circuit that becomes releasing by RLC, and one that may begin by IAM
abbrev pub released : Signal → Circuit → ℕ
released rlc c = bit_of (is_unexpected c)
released m c = 0

abbrev pub begins : Signal → ℕ
begins iam = 1
begins m = 0

-- a request about blocks hands what it may cause on to its answer
abbrev pub hands : Signal → Bool
hands blo = true
hands ubl = true
hands (cgb why) = true
hands (cgu why) = true
hands m = false

-- no other message makes a circuit calling or talking
pub calls_kept : (b : Bool) (m : Signal) (c : Circuit) → in_call (hear b m c).circuit + released m c ≤ in_call c + begins m
calls_kept b iam c = grind arith
calls_kept b progress c = grind arith
calls_kept b rel c = grind arith
calls_kept b rlc c = grind arith
calls_kept b blo c = grind arith
calls_kept b bla c = grind arith
calls_kept b ubl c = grind arith
calls_kept b uba c = grind arith
calls_kept b rsc c = grind arith
calls_kept b grs c = grind arith
calls_kept b (cgb x) c = grind arith
calls_kept b (cgu x) c = grind arith
calls_kept b (cgba x) c = grind arith
calls_kept b (cgua x) c = grind arith
calls_kept b (gra x) c = grind arith

-- what is sent at once was counted before, or is the release of a call
pub caused : (m : Signal) (c d : Circuit) → further m c ≤ weight d c m + released m c
caused iam c d = grind arith
caused progress c d = grind arith
caused rel c d = grind arith
caused rlc c d = grind arith
caused blo c d = grind arith
caused bla c d = grind arith
caused ubl c d = grind arith
caused uba c d = grind arith
caused rsc c d = grind arith
caused grs c d = grind arith
caused (cgb x) c d = grind arith
caused (cgu x) c d = grind arith
caused (cgba x) c d = grind arith
caused (cgua x) c d = grind arith
caused (gra x) c d = grind arith

-- and no more may come of the reply, but for what a request hands on
pub handed : (m : Signal) (c d : Circuit) → weights c d (answers m c) ≤ cond (hands m) (weight d c m) 0
handed iam c d = grind arith
handed progress c d = grind arith
handed rel c d = grind arith
handed rlc c d = grind arith
handed blo c d = grind arith
handed bla c d = grind arith
handed ubl c d = grind arith
handed uba c d = grind arith
handed rsc c d = grind arith
handed grs c d = grind arith
handed (cgb x) c d = grind arith
handed (cgu x) c d = grind arith
handed (cgba x) c d = grind arith
handed (cgua x) c d = grind arith
handed (gra x) c d = grind arith
