-- What is promised holds where it is only known that some run led here, and where the words told are kept as numbers.
use Rattle.std.proofs.Common.{◌≡◌, ℕ, ◌+◌, Bool, true, false, not, List, [], ◌∷◌, map, Option, sym, subst}
use Rattle.std.proofs.Math.Logic.{∥∥₁_elim}
use Rattle.std.specs.Coded.{×_prop, Unit-prop}
use Rattle.std.proofs.Props.{props}
use Rattle.status.specs.declared.cic.Cic.{Cic}
use Rattle.policy.specs.declared.interface.Place.{Place}
use Rattle.circuit.specs.Circuits.{is_engaged}
use Rattle.circuit.specs.Laws.{Turns}
use Rattle.words.specs.Words.{number_of}
use Rattle.words.specs.declared.kinds.Word.{Word}
use Rattle.words.specs.declared.kinds.Word.TheVariants.{Send, Begun, Ended, Alert}
use Rattle.supervision.specs.declared.trunk.Config.{Config}
use Rattle.supervision.specs.Trunks.{placed}
use Rattle.agreement.specs.Agreeing.{TakesTurns, AreTaken, Asks, Seizes, Promised}
use Rattle.agreement.specs.Reading.{read}
use Rattle.agreement.specs.Runs.{State, Reaches, trunk}
use Rattle.agreement.proofs.Running.{agreement, legible}
use Rattle.agreement.proofs.Telling.{Legible, read_back}

turns_prop : (before : Bool) (ws : List Word) (after : Bool) → IsProp (Turns before ws after)
turns_prop b [] a = hlevel props
turns_prop b (Send p l ∷ ws) a = turns_prop b ws a
turns_prop b (Begun w c ∷ ws) a = ×_prop (hlevel props) (turns_prop true ws a)
turns_prop b (Ended w c ∷ ws) a = ×_prop (hlevel props) (turns_prop false ws a)
turns_prop b (Alert t c ∷ ws) a = turns_prop b ws a

taken_prop : (t : Config) (s : State) (l : List (List ℕ)) → IsProp (AreTaken t s l)
taken_prop t s [] = Unit-prop
taken_prop t s (o ∷ l) = ×_prop (hlevel props) (taken_prop t s l)

seizes_prop : (t : Config) (s : State) → IsProp (Seizes t s)
seizes_prop t s = hlevel props

promised_prop : (t u : Config) (a b : State) → IsProp (Promised t u a b)
promised_prop t u a b = hlevel (props, turns_prop, taken_prop, seizes_prop)

-- the same with the words that the numbers told say
abbrev pub numbered : State → List ℕ → State
numbered s ns = record s { told = read ns }

read_turns : (first : Cic) (s : State) → Legible s.told → TakesTurns first s → TakesTurns first (numbered s (map number_of s.told))
read_turns first s l h k i = subst (λ (ws : List Word). Turns false ws (is_engaged (placed s.table k))) (sym (read_back (first.0 + k) s.told l)) (h k i)

-- what is promised of a run holds of the words as they are read from their numbers
of_numbers : (first : Cic) (ws : List ℕ) (h : Bool) (a b : State) → Reaches first ws h a b
    → Promised (trunk first ws h) (trunk first ws (not h)) (numbered a (map number_of a.told)) (numbered b (map number_of b.told))
of_numbers first ws h a b r =
    let p = agreement first ws h a b r in
    let l = legible first ws h r in
    record {
      agree = p.agree;
      turns = (read_turns first a l.0 p.turns.0, read_turns first b l.1 p.turns.1);
      seizes = (
        record { set = p.seizes.0.set; exactly = λ body choice words octets q. p.seizes.0.exactly body choice words octets (asks a (map number_of a.told) body choice words octets q); fits = p.seizes.0.fits; takes = p.seizes.0.takes },
        record { set = p.seizes.1.set; exactly = λ body choice words octets q. p.seizes.1.exactly body choice words octets (asks b (map number_of b.told) body choice words octets q); fits = p.seizes.1.fits; takes = p.seizes.1.takes },
      );
      taken = (taken_same (trunk first ws (not h)) b (map number_of b.told) a.line p.taken.0, taken_same (trunk first ws h) a (map number_of a.told) b.line p.taken.1);
      rest = p.rest;
    }
  where
    asks : (s : State) (ns : List ℕ) (body : List ℕ) (choice : Option Place) (words octets : List ℕ) → Asks (numbered s ns) body choice words octets → Asks s body choice words octets
    asks s ns body choice words octets q = record { chosen = q.chosen; long = q.long; short = q.short; room_of_words = q.room_of_words; room_of_octets = q.room_of_octets }

    taken_same : (t : Config) (s : State) (ns : List ℕ) (l : List (List ℕ)) → AreTaken t s l → AreTaken t (numbered s ns) l
    taken_same t s ns [] h = tt
    taken_same t s ns (o ∷ l) h = (h.0, taken_same t s ns l h.1)

-- where it is only known that some run led here
pub promised : (t u : Config) (a b : State) (na nb : List ℕ)
    → ∥ ((ws : List ℕ) × (t ≡ trunk t.first ws t.higher) × (u ≡ trunk t.first ws (not t.higher))
    × (va : List Word) × (vb : List Word) × (na ≡ map number_of va) × (nb ≡ map number_of vb) × Reaches t.first ws t.higher (record a { told = va }) (record b { told = vb })) ∥₁
    → Promised t u (numbered a na) (numbered b nb)
promised t u a b na nb r = ∥∥₁_elim r (promised_prop t u (numbered a na) (numbered b nb))
    (λ (x : (ws : List ℕ) × (t ≡ trunk t.first ws t.higher) × (u ≡ trunk t.first ws (not t.higher))
    × (va : List Word) × (vb : List Word) × (na ≡ map number_of va) × (nb ≡ map number_of vb) × Reaches t.first ws t.higher (record a { told = va }) (record b { told = vb })).
    subst (λ (c : Config). Promised c u (numbered a na) (numbered b nb)) (sym x.1)
    (subst (λ (c : Config). Promised (trunk t.first x.0 t.higher) c (numbered a na) (numbered b nb)) (sym x.2)
    (subst (λ (n : List ℕ). Promised (trunk t.first x.0 t.higher) (trunk t.first x.0 (not t.higher)) (numbered a n) (numbered b nb)) (sym x.5)
    (subst (λ (n : List ℕ). Promised (trunk t.first x.0 t.higher) (trunk t.first x.0 (not t.higher)) (numbered a (map number_of x.3)) (numbered b n)) (sym x.6)
    (of_numbers t.first x.0 t.higher (record a { told = x.3 }) (record b { told = x.4 }) x.7)))))
