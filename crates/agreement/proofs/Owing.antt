-- A wait for an answer: while an end waits, its request stands on its line, or the answer on the line back.
-- Of both lines there are only marks here: whether each message is such a request, or such an answer.
use Rattle.std.proofs.Common.{◌≡◌, Bool, true, false, ◌||◌, ◌⊎◌, inl, inr, List, [], ◌∷◌, ◌++◌, refl, subst}
use Rattle.std.proofs.lemmas.Bool.{false≢true}

-- some mark
abbrev pub has : List Bool → Bool
has [] = false
has (b ∷ l) = b || has l

has_left : (l o : List Bool) → has l ≡ true → has (l ++ o) ≡ true
has_left [] o e = absurd (false≢true e)
has_left (true ∷ l) o e = refl
has_left (false ∷ l) o e = has_left l o e

has_right : (l o : List Bool) → has o ≡ true → has (l ++ o) ≡ true
has_right [] o e = e
has_right (true ∷ l) o e = refl
has_right (false ∷ l) o e = has_right l o e

abbrev pub Owed : Bool → List Bool → List Bool → Type 0
Owed w out into = w ≡ true → (has out ≡ true) ⊎ (has into ≡ true)

pub asker_acts : (w w' : Bool) (out o into : List Bool) → (w' ≡ true → (w ≡ true) ⊎ (has o ≡ true)) → Owed w out into → Owed w' (out ++ o) into
asker_acts w w' out o into h c e = go (h e)
  where
    go : (w ≡ true) ⊎ (has o ≡ true) → (has (out ++ o) ≡ true) ⊎ (has into ≡ true)
    go (inl q) = elim (c q) [ inl x ↦ inl (has_left out o x) | inr y ↦ inr y ]
    go (inr q) = inl (has_right out o q)

pub asker_hears : (w w' x : Bool) (out o into : List Bool) →
    (w' ≡ true → ((w ≡ true) × (x ≡ false)) ⊎ (has o ≡ true)) → Owed w out (x ∷ into) → Owed w' (out ++ o) into
asker_hears w w' x out o into h c e = go (h e)
  where
    go : ((w ≡ true) × (x ≡ false)) ⊎ (has o ≡ true) → (has (out ++ o) ≡ true) ⊎ (has into ≡ true)
    go (inl q) = elim (c q.0) [ inl z ↦ inl (has_left out o z) | inr z ↦ inr (subst (λ (b : Bool). (b || has into) ≡ true) q.1 z) ]
    go (inr q) = inl (has_right out o q)

pub answerer_acts : (w : Bool) (out into o : List Bool) → Owed w out into → Owed w out (into ++ o)
answerer_acts w out into o c e = elim (c e) [ inl x ↦ inl x | inr y ↦ inr (has_left into o y) ]

pub answerer_hears : (w x : Bool) (out into o : List Bool) → (x ≡ true → has o ≡ true) → Owed w (x ∷ out) into → Owed w out (into ++ o)
answerer_hears w true out into o h c e = inr (has_right into o (h refl))
answerer_hears w false out into o h c e = elim (c e) [ inl x ↦ inl x | inr y ↦ inr (has_left into o y) ]

pub none_owed : (w : Bool) → Owed w [] [] → w ≡ false
none_owed false c = refl
none_owed true c = elim (c refl) [ inl e ↦ absurd (false≢true e) | inr e ↦ absurd (false≢true e) ]
