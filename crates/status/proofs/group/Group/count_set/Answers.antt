use Rattle.std.proofs.Common.{◌≡◌, ℕ, ◌+◌, ◌/◌, ◌<◌, ◌≤◌, List, length, get_or, ◌∙◌, arith}
use Rattle.status.specs.Bits.{set_bits, SameBits}
use Rattle.status.specs.Naming.{circuits_of}
use Rattle.status.proofs.Bits.{count_some, count_none}
use Rattle.status.proofs.Names.{names_counted, count_same}
use Rattle.status.proofs.group.Group.count_set.Goals as goal

-- a count that is right is that of the named circuits, and spare bits do not change it
count_clauses : (n r : ℕ) (xs : List ℕ) → n ≡ set_bits xs (r + 1) →
    (n ≡ set_bits xs (r + 1)) × ((m : ℕ) → n ≡ length (circuits_of m r xs)) × ((ys : List ℕ) → SameBits r xs ys → n ≡ set_bits ys (r + 1))
count_clauses n r xs e = (e, λ m. e ∙ names_counted m r xs, λ ys s. e ∙ count_same xs ys r s)

pub returns-in-Some : goal.returns-in-Some
returns-in-Some c =
    let xs = c.args.self.status.now in
    let r = c.args.self.range.0 in
    let o = c.in-Some.ensures.lookup in
    let l : r / 8 < length xs = o.3.0 in
    let g : c.in-Some.octet.now ≡ get_or xs (r / 8) 0 = o.3.1 0 in
    let p = count_clauses _ r xs (rw (c.ones_in-whole.ensures, g, c.last_mask.ensures) (count_some xs r c.min.result c.min.ensures l)) in
    record { value = p.0; names = p.1; spare = p.2 }

pub returns-in-None : goal.returns-in-None
returns-in-None c =
    let xs = c.args.self.status.now in
    let r = c.args.self.range.0 in
    let l : length xs ≤ r / 8 = grind (arith, c.in-None.ensures.lookup) in
    let p = count_clauses _ r xs (c.ones_in-whole.ensures ∙ count_none xs r c.min.result c.min.ensures l) in
    record { value = p.0; names = p.1; spare = p.2 }
