-- A type octet and its kind.
use Rattle.std.proofs.Common.{◌≡◌, ℕ, Bool, true, false, cond, eqb, ◌⊎◌, Some, None, Option, sym, refl, ap, ◌∙◌, inl, inr}
use Rattle.std.proofs.lemmas.Bool.{eqb-true}
use Rattle.std.proofs.lemmas.Option.{none-some}
use Rattle.message.specs.declared.kinds.Kind.{Kind}
use Rattle.message.specs.declared.kinds.Kind.TheVariants.{Single, ReleaseComplete, GroupReset, GroupResetAck, Grouped, Release, Call}
use Rattle.message.specs.Types.{type_of, kind_of}
use Rattle.message.specs.declared.kinds.Single.TheVariants.{Rsc, Blo, Ubl, Bla, Uba}
use Rattle.message.specs.declared.kinds.Grouped.TheVariants.{Cgb, Cgu, Cgba, Cgua}
use Rattle.message.specs.declared.kinds.CallKind.TheVariants.{Iam, Acm, Con, Anm, Cpg}

pub kind_of_type : (k : Kind) → kind_of (type_of k) ≡ Some k
kind_of_type (Single Rsc) = refl
kind_of_type (Single Blo) = refl
kind_of_type (Single Ubl) = refl
kind_of_type (Single Bla) = refl
kind_of_type (Single Uba) = refl
kind_of_type ReleaseComplete = refl
kind_of_type GroupReset = refl
kind_of_type GroupResetAck = refl
kind_of_type (Grouped Cgb) = refl
kind_of_type (Grouped Cgu) = refl
kind_of_type (Grouped Cgba) = refl
kind_of_type (Grouped Cgua) = refl
kind_of_type Release = refl
kind_of_type (Call Iam) = refl
kind_of_type (Call Acm) = refl
kind_of_type (Call Con) = refl
kind_of_type (Call Anm) = refl
kind_of_type (Call Cpg) = refl

-- one row of the table, and the rows after it
row : {t : ℕ} (j : Kind) {rest : Option Kind} {k : Kind} → (rest ≡ Some k → type_of k ≡ t) →
    cond (eqb t (type_of j)) (Some j) rest ≡ Some k → type_of k ≡ t
row {t} j {rest} {k} after e = at (eqb t (type_of j)) refl e
  where
    at : (b : Bool) → eqb t (type_of j) ≡ b → cond b (Some j) rest ≡ Some k → type_of k ≡ t
    at true p q = let s : j ≡ k = cc in ap type_of (sym s) ∙ sym (eqb-true t (type_of j) p)
    at false p q = after q

pub type_of_kind : (t : ℕ) (k : Kind) → kind_of t ≡ Some k → type_of k ≡ t
type_of_kind t k =
    row (Single Rsc) (row (Single Blo) (row (Single Ubl) (row (Single Bla) (row (Single Uba)
    (row (Call Iam) (row (Call Acm) (row (Call Con) (row (Call Anm) (row (Call Cpg)
    (row ReleaseComplete (row Release (row GroupReset (row GroupResetAck
    (row (Grouped Cgb) (row (Grouped Cgu) (row (Grouped Cgba) (row (Grouped Cgua)
    (λ e. absurd (none-some k e)))))))))))))))))))

pub unlisted : (t : ℕ) → kind_of t ≡ None → (k : Kind) → type_of k ≡ t → ⊥
unlisted t e k p = none-some k (sym e ∙ ap kind_of (sym p) ∙ kind_of_type k)

-- a type octet is of a kind or of none
pub listed : (t : ℕ) → ((k : Kind) × (kind_of t ≡ Some k)) ⊎ (kind_of t ≡ None)
listed t = go (kind_of t) refl
  where
    go : (o : Option Kind) → kind_of t ≡ o → ((k : Kind) × (kind_of t ≡ Some k)) ⊎ (kind_of t ≡ None)
    go None e = inr e
    go (Some k) e = inl (k, e)
