-- The policy's set, from place to place.
use Rattle.std.proofs.Common.{◌≡◌, ℕ, zero, suc, ◌<◌, Bool, true, false, List, [], ◌∷◌, length, get_or, set, refl, ap, ◌∙◌, arith}
use Rattle.circuit.specs.Circuits.{is_open, vacant}
use Rattle.circuit.specs.declared.record.Circuit.{Circuit}
use Rattle.supervision.specs.Lending.{kept, settled}
use Rattle.supervision.specs.Steps.{settled_at}

pub kept_same : (h b : Bool) → kept h b b ≡ h
kept_same h true = refl
kept_same h false = refl

-- nothing changed: the set is as it was
pub settled_same : (hs : List Bool) (bs : List Circuit) → settled hs bs bs ≡ hs
settled_same [] bs = refl
settled_same (h ∷ hs) [] = refl
settled_same (h ∷ hs) (b ∷ bs) = rw (kept_same h (is_open b), settled_same hs bs) refl

pub settled_at_same : (hs : List Bool) (k : ℕ) (b : Bool) → settled_at hs k b b ≡ hs
settled_at_same hs k true = refl
settled_at_same hs k false = refl

head_step : (hs : List Bool) (h b c : Bool) → settled_at (kept h b b ∷ hs) 0 b c ≡ kept h b c ∷ hs
head_step hs h true true = refl
head_step hs h true false = refl
head_step hs h false true = refl
head_step hs h false false = refl

tail_step : (hs : List Bool) (h b c : Bool) (k : ℕ) → settled_at (h ∷ hs) (suc k) b c ≡ h ∷ settled_at hs k b c
tail_step hs h true true k = refl
tail_step hs h true false k = refl
tail_step hs h false true k = refl
tail_step hs h false false k = refl

none_step : (k : ℕ) (b c : Bool) → settled_at [] k b c ≡ []
none_step k true true = refl
none_step k true false = refl
none_step k false true = refl
none_step k false false = refl

-- one place more, whose circuit was as at the start until now
pub settled_step : (hs : List Bool) (bs cs : List Circuit) (k : ℕ) (x : Circuit)
    → k < length bs
    → length bs ≡ length cs
    → get_or cs k vacant ≡ get_or bs k vacant
    → settled_at (settled hs bs cs) k (is_open (get_or cs k vacant)) (is_open x) ≡ settled hs bs (set cs k x)
settled_step [] bs cs k x l e s = none_step k (is_open (get_or cs k vacant)) (is_open x)
settled_step (h ∷ hs) [] cs k x l e s = absurd (omega arith)
settled_step (h ∷ hs) (b ∷ bs) [] k x l e s = absurd (omega arith)
settled_step (h ∷ hs) (b ∷ bs) (c ∷ cs) zero x l e s =
    rw s (head_step (settled hs bs cs) h (is_open b) (is_open x))
settled_step (h ∷ hs) (b ∷ bs) (c ∷ cs) (suc k) x l e s =
    tail_step (settled hs bs cs) (kept h (is_open b) (is_open c)) (is_open (get_or cs k vacant)) (is_open x) k
    ∙ ap (λ t. kept h (is_open b) (is_open c) ∷ t) (settled_step hs bs cs k x (omega arith) (omega arith) s)

-- place by place
pub settled_at_lem : (hs : List Bool) (bs cs : List Circuit) (k : ℕ)
    → k < length hs
    → length bs ≡ length cs
    → get_or (settled hs bs cs) k false ≡ kept (get_or hs k false) (is_open (get_or bs k vacant)) (is_open (get_or cs k vacant))
settled_at_lem [] bs cs k l e = absurd (omega arith)
settled_at_lem (h ∷ hs) [] [] k l e = refl
settled_at_lem (h ∷ hs) [] (c ∷ cs) k l e = absurd (omega arith)
settled_at_lem (h ∷ hs) (b ∷ bs) [] k l e = absurd (omega arith)
settled_at_lem (h ∷ hs) (b ∷ bs) (c ∷ cs) zero l e = refl
settled_at_lem (h ∷ hs) (b ∷ bs) (c ∷ cs) (suc k) l e = settled_at_lem hs bs cs k (omega arith) (omega arith)

pub length-settled : (hs : List Bool) (bs cs : List Circuit) → length (settled hs bs cs) ≡ length hs
length-settled [] bs cs = refl
length-settled (h ∷ hs) [] cs = refl
length-settled (h ∷ hs) (b ∷ bs) [] = refl
length-settled (h ∷ hs) (b ∷ bs) (c ∷ cs) = ap suc (length-settled hs bs cs)
