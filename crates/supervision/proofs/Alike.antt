-- A group order does to each named circuit what the order for one does.
use Rattle.std.proofs.Common.{◌≡◌, ℕ, ◌+◌, ◌-◌, ◌*◌, ◌%◌, ◌<◌, Bool, true, false, eqb, leb, List, length, Ok, Err, Result, sym, refl, ap, ◌∙◌, arith}
use Rattle.std.proofs.lemmas.Bool.{le-leb, eq-eqb}
use Rattle.std.proofs.lemmas.Bool.Decides.{nat_tests}
use Rattle.message.specs.Msg.{Msg}
use Rattle.circuit.specs.Changes.{with_reset}
use Rattle.circuit.specs.Laws.{allows, told_of}
use Rattle.circuit.specs.Orders.{applied, on_reset}
use Rattle.circuit.specs.declared.record.Circuit.{Circuit}
use Rattle.circuit.specs.declared.record.Reset.TheVariants as reset
use Rattle.circuit.specs.declared.rules.Rule.{Rule}
use Rattle.circuit.specs.declared.rules.Rule.TheVariants.{Reset}
use Rattle.refusal.specs.declared.reasons.Refusal.{Refusal}
use Rattle.supervision.specs.declared.trunk.Config.{Config}
use Rattle.supervision.specs.Laws.{about, GroupLaws}
use Rattle.supervision.specs.Lending.{Lent, Done}
use Rattle.supervision.specs.Moves.{Move, table_of, words_of}
use Rattle.supervision.specs.Orders.{circuit_of, ordered, only, singly, slots, every_slot, status_of, groupwise}
use Rattle.supervision.specs.Trunks.{cic_at, placed}
use Rattle.supervision.proofs.Allowing.{accepted}
use Rattle.supervision.proofs.Keeping.{table_at, about-words}
use Rattle.supervision.proofs.Masks.{named-slots}
use Rattle.supervision.proofs.Naming.{acts, covers_in}

here : (t : Config) (k : ℕ) (T : List Circuit) → circuit_of t (cic_at t k) T ≡ placed T k
here t k T =
    let a : leb t.first.0 (t.first.0 + k) ≡ true = le-leb t.first.0 (t.first.0 + k) (omega arith) in
    let b : t.first.0 + k - t.first.0 ≡ k = omega arith in
    rw (a, b) refl

-- what a move makes of a circuit that it names
pub made_of : (named : ℕ → Bool) (rule : Rule) (msg : Msg) (T : List Circuit) (k : ℕ) → named k ≡ true → (placed T k).equipped ≡ true
    → placed (table_of (ordered named rule msg) T) k ≡ (applied rule (placed T k)).circuit
made_of named rule msg T k n e = table_at (ordered named rule msg) T k ∙ ap (λ d. d.circuit) (acts named (λ _. applied rule) k (placed T k) n e)

-- and what it tells of it
pub told_at : (t : Config) (named : ℕ → Bool) (rule : Rule) (msg : Msg) (T : List Circuit) (k : ℕ) → k < length T → named k ≡ true → (placed T k).equipped ≡ true
    → about (t.first.0 + k) (words_of t (ordered named rule msg) T) ≡ told_of (cic_at t k) (applied rule (placed T k))
told_at t named rule msg T k l n e =
    about-words t (ordered named rule msg) T k l ∙ ap (told_of (cic_at t k)) (acts named (λ _. applied rule) k (placed T k) n e)

alone : (t : Config) (k : ℕ) → only t (cic_at t k) k ≡ true
alone t k = eq-eqb k (t.first.0 + k - t.first.0) (omega arith)

pub one_alike : (t : Config) (k : ℕ) (rule : Rule) (msg : Msg) (T : List Circuit) → k < length T → (placed T k).equipped ≡ true → allows rule (placed T k) ≡ true
    → (m : Move) × (singly t (cic_at t k) rule msg T ≡ Ok m) × ((applied rule (placed T k)).circuit ≡ placed (table_of m T) k)
    × (told_of (cic_at t k) (applied rule (placed T k)) ≡ about (t.first.0 + k) (words_of t m T))
one_alike t k rule msg T l e a = (
  ordered (only t (cic_at t k)) rule msg,
  rw (here t k T, e, a) refl,
  sym (made_of (only t (cic_at t k)) rule msg T k (alone t k) e),
  sym (told_at t (only t (cic_at t k)) rule msg T k l (alone t k) e),
)

even_from : (x : ℕ) → eqb (x % 2) 1 ≡ false → x % 2 ≡ 0
even_from x e = grind (arith, nat_tests)

pub group_order : (t : Config) (system mask : ℕ) (rule : Rule) (msg : Msg) (before after : Lent) (r : Result (ℕ × ℕ) Refusal)
    → Done t (groupwise t system mask rule msg before.table) r before after
    → GroupLaws t system mask rule (groupwise t system mask rule msg before.table) before after
group_order t system mask rule msg before after r d = go (groupwise t system mask rule msg before.table) refl d
  where
    go : (a : Result Move Refusal) → groupwise t system mask rule msg before.table ≡ a → Done t a r before after → GroupLaws t system mask rule a before after
    go (Err e) q x = x.1
    go (Ok m) q x =
        let w = accepted t system mask rule msg before.table m q in
        record {
          alike = λ k n l message.
              let both = w.2 k n l in
              let T = before.table in
              let one = one_alike t k rule message T l both.0 both.1 in
              let words = ap (λ (y : Move). about (t.first.0 + k) (words_of t y T)) w.0 ∙ told_at t (slots system mask) rule msg T k l n both.0 in (
                one.0,
                one.1,
                ap (λ (y : Lent). placed y.table k) x.1 ∙ ap (λ (y : Move). placed (table_of y before.table) k) w.0
                    ∙ made_of (slots system mask) rule msg before.table k n both.0 ∙ one.2,
                words ∙ one.3,
              );
          names = λ n l. sym (covers_in (system * 32 + 1) 30 (status_of mask) n) ∙ ap (λ (f : ℕ → Bool). f (system * 32 + 1 + n)) (named-slots system mask (even_from mask w.1));
        }

-- a group reset is like a circuit reset
pub resets_alike : (t : Config) (system : ℕ) (msg : Msg) (T : List Circuit) (k : ℕ) → slots system every_slot k ≡ true → k < length T → (placed T k).equipped ≡ true
    → (placed (table_of (ordered (slots system every_slot) (Reset reset.Group) msg) T) k ≡ with_reset reset.Group (on_reset reset.Single (placed T k)).circuit)
    × (about (t.first.0 + k) (words_of t (ordered (slots system every_slot) (Reset reset.Group) msg) T) ≡ told_of (cic_at t k) (on_reset reset.Single (placed T k)))
resets_alike t system msg T k n l e = (
  made_of (slots system every_slot) (Reset reset.Group) msg T k n e,
  told_at t (slots system every_slot) (Reset reset.Group) msg T k l n e,
)
