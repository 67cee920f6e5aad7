use Rattle.std.proofs.Common.{◌≡◌, ℕ, ◌<◌, List, length}
use Rattle.status.specs.Bits.{octets_for, bit_at, SameBits, cleared}
use Rattle.status.proofs.Cleared.{cleared_same, cleared_spare, cleared_by_mask}
use Rattle.status.proofs.range.Range.clear_spare.Goals as goal

-- what holds of a cleared status holds of the octets that are left
clauses : (r : ℕ) (xs ys : List ℕ) → ys ≡ cleared r xs →
    (ys ≡ cleared r xs) × SameBits r xs ys × (length xs ≡ octets_for r → (k : ℕ) → r < k → bit_at ys k ≡ 0)
clauses r xs ys e = (e, (λ k h. rw e (cleared_same r xs k h)), λ l k h. rw e (cleared_spare r xs l k h))

pub returns-then-end-status : goal.returns-then-end-status
returns-then-end-status c =
    let p = clauses c.args.self.0 c.args.status.now _ (rw c.last_mask.ensures (cleared_by_mask c.args.self.0 c.args.status.now)) in
    record { after = p.0; same = p.1; spare = p.2 }
