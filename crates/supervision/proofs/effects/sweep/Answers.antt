use Rattle.std.proofs.Common.{◌≡◌, ℕ, ◌+◌, ◌-◌, ◌*◌, ◌<◌, ◌≤◌, map, length, get_or, set, take, drop, sym, refl, ap, ◌∙◌, add-zero, add_assoc, arith}
use mir.Syntax.{w32}
use Rattle.std.specs.Int.{trailing_zeros}
use Rattle.std.proofs.lemmas.List.{set-get_or, length-take-le}
use Rattle.circuit.specs.Circuits.{vacant}
use Rattle.circuit.specs.Changes.{quiet}
use Rattle.circuit.specs.Laws.{told_of}
use Rattle.status.specs.declared.cic.Cic.{Cic}
use Rattle.words.specs.Words.{number_of}
use Rattle.supervision.specs.Lending.{over}
use Rattle.supervision.specs.Moves.{where_named, each_from, told_from}
use Rattle.supervision.specs.Steps.{touched, rule_by, tally}
use Rattle.supervision.specs.Trunks.{cic_at}
use Rattle.supervision.proofs.Naming.{unnamed, unequipped, acts}
use Rattle.supervision.proofs.Extending.{stood_done}
use Rattle.supervision.proofs.Touching.{touched_below, touched_past, touched_inside, tally_grows, tally_more}
use Rattle.supervision.proofs.Walking.{next_place, no_place, bits_left}
use Rattle.supervision.proofs.Stepping.{stands_from, stands_more, stands_skip, stands_quiet, stands_all, told_short, length_each}
use Rattle.supervision.proofs.Turning.{tells_same, tells_more}
use Rattle.supervision.proofs.Writing.{part_at, rest_length}
use Rattle.supervision.proofs.effects.sweep.Goals as goal
use Rattle.supervision.proofs.effects.sweep.Goals.{then-circuit, else-circuit}

pub loop-past-init : goal.loop-past-init
loop-past-init g c =
    let first = c.args.slots.first.0 in
    let e = c.what-effect.result in
    let named = touched e c.args.slots in
    let rule = rule_by e c.args.slots in (
      rw (add-zero first)
          (stands_from c.args.trunk.config (where_named named rule) first c.args.table.now (g.P.Policy.held c.args.policy.now) c.args.words.now (omega arith)
          (λ j a b x. unnamed named rule j x (touched_below e c.args.slots j (omega arith)))),
      omega arith,
      tells_same g.P.Policy.obeys c.args.table.now c.args.policy.now,
      λ l. refl,
      omega arith,
    )

pub loop-rest-preserved : goal.loop-rest-preserved
loop-rest-preserved g c =
    let first = c.args.slots.first.0 in
    let t = c.args.trunk.config in
    let e = c.what-effect.result in
    let n = c.loop-rest.n in
    let skipped = trailing_zeros w32 c.loop-rest.rest in
    let k = first + (n + skipped) in
    let T = c.args.table.now in
    let W = c.args.words.now in
    let H = g.P.Policy.held c.args.policy.now in
    let U = c.loop-rest.table in
    let named = touched e c.args.slots in
    let rule = rule_by e c.args.slots in
    let f = where_named named rule in
    let x = get_or U k vacant in
    let i = c.loop-rest.invariant in
    let w = next_place (λ j. named (first + j)) c.touched-bits.result c.loop-past.past n c.loop-rest.rest (omega arith) i.3 i.6 c.loop-rest-test.true c.touched-bits.ensures in
    let inside = touched_inside e c.args.slots (n + skipped) w.1 in
    let size = c.requires.inside in
    let in-range : k < length T = omega (arith, inside, size) in
    let room = c.requires.room e c.what-effect.ensures in
    let words-size = c.requires.words in
    let before = tally_grows e c.args.slots n (n + skipped) (omega arith) in
    let more = tally_more e c.args.slots (n + skipped) w.1 in
    let grows = tally_grows e c.args.slots (n + skipped + 1) (c.args.slots.group.range.0 + 1) (omega (arith, inside)) in
    let stands = rw (add_assoc first n skipped) at
    (stands_quiet t f (first + n) skipped T H W U (g.P.Policy.held c.loop-rest.policy) c.loop-rest.words c.loop-rest.count
    i.0 (omega (arith, inside, size)) (omega (arith, before, more, grows, room, words-size, i.1))
    (λ j a b y.
    let here : first + (j - first) ≡ j = omega (arith, a) in
    unnamed named rule j y (rw here at (w.2 (j - first) (omega (arith, a)) (omega (arith, a, b)))))) in
    let out = each_from f 0 (take k T) in
    let len : length out ≡ k = length_each f 0 (take k T) ∙ length-take-le k T (omega (arith, in-range)) in
    let few : length (told_from t f 0 (take k T)) ≤ tally e c.args.slots n * 2 = rw (← stands.3) i.1 in
    let left = bits_left c.touched-bits.result c.loop-past.past n c.loop-rest.rest i.3 i.6 in
    rw (← add_assoc first (n + skipped) 1)
    (elim c.if-circuit.branch [
      | then-circuit v ↦
          let done = v.apply-change.result in
          let q : f k x ≡ done = acts named rule k x w.1 v.if-circuit.true ∙ sym v.apply-change.ensures in
          let short = told_short (cic_at t k) done in
          let told = told_of (cic_at t k) done in
          let count : v.store-count.result ≡ length told = v.store-count.ensures.count ∙ ap (λ (z : Cic). length (told_of z done)) v.cic_at.ensures in
          let rest = take (length c.loop-rest.words - c.loop-rest.count) (drop c.loop-rest.count c.loop-rest.words) in
          let words = v.store-count.ensures.words ∙ ap (λ (z : Cic). over (map number_of (told_of z done)) rest) v.cic_at.ensures in
          let table : set U k v.store-count.new.circuit ≡ set U k done.circuit = ap (set U k) v.store-count.ensures.circuit in (
            rw (v.table-is, v.policy-is, v.words-is, v.count-is)
                (stands_more t f k T H W U (set U k v.store-count.new.circuit) (g.P.Policy.held c.loop-rest.policy) (g.P.Policy.held v.store-count.new.policy)
                c.loop-rest.words _ c.loop-rest.count (c.loop-rest.count + v.store-count.result)
                stands in-range
                (rw q (omega (arith, few, short, before, more, grows, room, words-size)))
                (rw q table) (rw q v.store-count.ensures.held)
                (rw q (part_at c.loop-rest.count (map number_of told) c.loop-rest.words v.store-count.new.words (omega arith) words))
                (rw q (ap (λ (z : ℕ). c.loop-rest.count + z) count))),
            omega (arith, v.count-is, count, short, before, more, i.1),
            rw (v.table-is, v.policy-is)
                (tells_more g.P.Policy.obeys out T U (set U k v.store-count.new.circuit) done.circuit k
                c.args.policy.now c.loop-rest.policy v.store-count.new.policy
                stands.0 len in-range table i.2 v.store-count.ensures.policy),
            omega (arith, i.3),
            omega (arith, w.0),
            omega (arith, inside),
            left,
          )
      | else-circuit v ↦
          let q : f k x ≡ quiet x = unequipped named rule k x v.if-circuit.false in
          let same = set-get_or U k vacant in (
            rw (v.table-is, same, v.policy-is, v.words-is, v.count-is)
                (stands_skip t f k T H W U (g.P.Policy.held c.loop-rest.policy) c.loop-rest.words c.loop-rest.count
                stands in-range (omega (arith, few, before, more, grows, room, words-size)) q),
            omega (arith, v.count-is, before, more, i.1),
            rw (v.table-is, same, v.policy-is) i.2,
            omega (arith, i.3),
            omega (arith, w.0),
            omega (arith, inside),
            left,
          )
    ])

pub loop-past-preserved : goal.loop-past-preserved
loop-past-preserved g c =
    let first = c.args.slots.first.0 in
    let e = c.what-effect.result in
    let T = c.args.table.now in
    let n = c.loop-rest.n in
    let next = c.min-past.result in
    let named = touched e c.args.slots in
    let rule = rule_by e c.args.slots in
    let i = c.loop-rest.invariant in
    let start = c.loop-past.invariant.3 (omega arith) in
    let none = no_place (λ j. named (first + j)) c.touched-bits.result c.loop-past.past n i.3 (sym i.6 ∙ c.loop-rest-test.false) c.touched-bits.ensures in
    let upto : n ≤ next = omega (arith, i.4, i.5) in
    let grows = tally_grows e c.args.slots n next upto in
    let last = tally_grows e c.args.slots n (c.args.slots.group.range.0 + 1) i.5 in
    let room = c.requires.room e c.what-effect.ensures in
    let size = c.requires.words in
    let inside = c.requires.inside in
    let to : first + n + (next - n) ≡ first + next = omega (arith, upto) in (
      rw to at
          (stands_quiet c.args.trunk.config (where_named named rule) (first + n) (next - n) T (g.P.Policy.held c.args.policy.now) c.args.words.now
          c.loop-rest.table (g.P.Policy.held c.loop-rest.policy) c.loop-rest.words c.loop-rest.count
          i.0 (omega (arith, upto, inside)) (omega (arith, last, room, size, i.1))
          (λ j a b x.
          let here : first + (j - first) ≡ j = omega (arith, a) in
          unnamed named rule j x (rw here at (none (j - first) (omega (arith, a)) (omega (arith, a, b, upto)))))),
      omega (arith, grows, i.1),
      i.2,
      λ l. omega (arith, start, l),
      omega arith,
    )

pub returns-clause-done : goal.returns-clause-done
returns-clause-done g c = λ e is O.
    let first = c.args.slots.first.0 in
    let x = c.what-effect.result in
    let named = touched x c.args.slots in
    let rule = rule_by x c.args.slots in
    let f = where_named named rule in
    let T = c.args.table.now in
    let H = g.P.Policy.held c.args.policy.now in
    let last = tally_grows x c.args.slots c.loop-past.past (c.args.slots.group.range.0 + 1) (omega arith) in
    let room = c.requires.room x c.what-effect.ensures in
    let size = c.requires.words in
    let few = c.loop-past.invariant.1 in
    rw (← is x c.what-effect.ensures)
    (stood_done c.args.trunk.config named rule T H c.args.words.now O
    c.loop-past.table (g.P.Policy.held c.loop-past.policy) c.loop-past.words c.loop-past.count
    (stands_all c.args.trunk.config f (first + c.loop-past.past) T H c.args.words.now
    c.loop-past.table (g.P.Policy.held c.loop-past.policy) c.loop-past.words c.loop-past.count
    c.loop-past.invariant.0 (omega arith)
    (λ j a y. unnamed named rule j y (touched_past x c.args.slots j (omega arith))))
    (omega (arith, last, room, few)) (omega (arith, last, room, few, size)))

pub returns-clause-policy : goal.returns-clause-policy
returns-clause-policy g c = c.loop-past.invariant.2

pub returns-clause-few : goal.returns-clause-few
returns-clause-few g c =
    let x = c.what-effect.result in
    let last = tally_grows x c.args.slots c.loop-past.past (c.args.slots.group.range.0 + 1) (omega arith) in
    let room = c.requires.room x c.what-effect.ensures in
    let few = c.loop-past.invariant.1 in
    omega (arith, last, room, few)

pub store-count-requires : goal.store-count-requires
store-count-requires g c =
    let e = c.what-effect.result in
    let first = c.args.slots.first.0 in
    let n = c.loop-rest.n in
    let skipped = trailing_zeros w32 c.loop-rest.rest in
    let i = c.loop-rest.invariant in
    let w = next_place (λ j. touched e c.args.slots (first + j)) c.touched-bits.result c.loop-past.past n c.loop-rest.rest (omega arith) i.3 i.6 c.loop-rest-test.true c.touched-bits.ensures in
    let inside = touched_inside e c.args.slots (n + skipped) w.1 in
    let before = tally_grows e c.args.slots n (n + skipped) (omega arith) in
    let more = tally_more e c.args.slots (n + skipped) w.1 in
    let grows = tally_grows e c.args.slots (n + skipped + 1) (c.args.slots.group.range.0 + 1) (omega (arith, inside)) in
    let room = c.requires.room e c.what-effect.ensures in
    let size = c.requires.words in
    rw (rest_length c.loop-rest.count c.loop-rest.words) (omega (arith, before, more, grows, room, i.1, size))

pub bounds-table-place : goal.bounds-table-place
bounds-table-place g c =
    let e = c.what-effect.result in
    let first = c.args.slots.first.0 in
    let i = c.loop-rest.invariant in
    let w = next_place (λ j. touched e c.args.slots (first + j)) c.touched-bits.result c.loop-past.past c.loop-rest.n c.loop-rest.rest (omega arith) i.3 i.6 c.loop-rest-test.true c.touched-bits.ensures in
    let inside = touched_inside e c.args.slots (c.loop-rest.n + trailing_zeros w32 c.loop-rest.rest) w.1 in
    let size = c.requires.inside in
    omega (arith, inside, size)

pub overflow_cast-n-then-circuit : goal.overflow_cast-n-then-circuit
overflow_cast-n-then-circuit g c =
    let e = c.what-effect.result in
    let first = c.args.slots.first.0 in
    let i = c.loop-rest.invariant in
    let w = next_place (λ j. touched e c.args.slots (first + j)) c.touched-bits.result c.loop-past.past c.loop-rest.n c.loop-rest.rest (omega arith) i.3 i.6 c.loop-rest-test.true c.touched-bits.ensures in
    let inside = touched_inside e c.args.slots (c.loop-rest.n + trailing_zeros w32 c.loop-rest.rest) w.1 in
    omega (arith, inside)
