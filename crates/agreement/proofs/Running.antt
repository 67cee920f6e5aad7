-- Our rules keep the laws of an end, so what is promised holds in every state that runs reach.
use Rattle.std.proofs.Common.{◌≡◌, ℕ, ◌-◌, ◌*◌, ◌≤◌, Bool, true, false, not, ◌||◌, eqb, ltb, List, [], ◌∷◌, length, Ok, sym, refl, ap, ◌∙◌, ⊎_elim, subst, arith}
use Rattle.std.proofs.lemmas.Bool.{cases_Bool, false≢true, le-ltb, eq-eqb}
use Rattle.status.specs.declared.cic.Cic.{Cic}
use Rattle.message.specs.Msg.{Msg, call}
use Rattle.message.specs.declared.kinds.BlockType.{BlockType}
use Rattle.message.specs.declared.kinds.BlockType.TheVariants.{Maintenance, Hardware}
use Rattle.message.specs.declared.kinds.CallKind.{CallKind}
use Rattle.message.specs.declared.kinds.CallKind.TheVariants.{Iam, Acm, Con, Anm, Cpg}
use Rattle.circuit.specs.Circuits.{block_of, vacant, is_asked, is_group, is_lifting, is_none, is_set, is_single, is_standing, is_waiting}
use Rattle.circuit.specs.declared.record.Circuit.{Circuit}
use Rattle.circuit.specs.declared.record.LocalBlock.{LocalBlock}
use Rattle.circuit.specs.declared.record.Reset.{Reset}
use Rattle.refusal.specs.Refusals.{and_then, raised}
use Rattle.supervision.specs.declared.trunk.Config.{Config}
use Rattle.supervision.specs.Moves.{Move}
use Rattle.supervision.specs.Orders.{admitted}
use Rattle.supervision.specs.Receiving.{as_cic, heard}
use Rattle.supervision.specs.Trunks.{controls, cic_at, placed}
use Rattle.supervision.proofs.Allowing.{and_ok}
use Rattle.supervision.proofs.Hearing.{heard_allowed}
use Rattle.agreement.specs.Agreeing.{Knows, AreTaken, Rests, Agreement}
use Rattle.agreement.specs.Runs.{State, lends, Steps, ordered, expired, received, called, of_host, trunk, with_line, Reaches, opened, near, far}
use Rattle.agreement.proofs.Acting.{order_acted, expiry_acted}
use Rattle.agreement.proofs.Choosing.{seizes_fairly}
use Rattle.agreement.proofs.EndLaws.{Heard}
use Rattle.agreement.proofs.Ends.{Inv, swapped, inv_acted, inv_heard, inv_called}
use Rattle.agreement.proofs.Event.{when, event, push, shown}
use Rattle.agreement.proofs.Hearing.{HeardAt, heard_at}
use Rattle.agreement.proofs.Laws.{HeardBy}
use Rattle.agreement.proofs.Laws.{Wait, for_block, for_lift, for_release, for_single, for_group, waiting}
use Rattle.agreement.proofs.Linking.{Link, link_agrees}
use Rattle.agreement.proofs.Octets.{AllOnLine, line_of, passes_whole}
use Rattle.agreement.proofs.Opened.{circuits, fitting, fresh_inv, takes_all}
use Rattle.agreement.proofs.Owing.{none_owed}
use Rattle.agreement.proofs.Passing.{Passes, call_passes, found_addressed, is_accepted}
use Rattle.agreement.proofs.Rules.{own_laws, heard_laws}
use Rattle.agreement.proofs.Rules.{Own, stays, progresses, hears}
use Rattle.agreement.proofs.Sending.{heard_sent}
use Rattle.agreement.proofs.Shifting.{heard_shift}
use Rattle.agreement.proofs.Signals.{progress}
use Rattle.agreement.proofs.Standing.{Fitting, Standing}
use Rattle.agreement.proofs.Telling.{Legible}

-- ## Our rules keep the laws

-- what a message that passes is at each circuit
pub message_at : (t : Config) (E : ℕ → Bool) (T : List Circuit) (msg : Msg) (m : Move) → Fitting t E → Standing t E T → Passes t E msg → heard t msg T ≡ Ok m
    → (k : ℕ) → E k ≡ true → HeardAt t T m k (event t.first.0 k msg)
message_at t E T msg m f st p h k e =
    heard_at t msg T m k h (passes_whole t.first.0 (t.systems * 32) E msg p.addressed) (st.equipment k ∙ e) (f.slots k e)
    (let j = f.inside k e in let n = t.systems in omega (arith, j))

message_heard : (t : Config) (E : ℕ → Bool) (T : List Circuit) (msg : Msg) (m : Move) → Fitting t E → Standing t E T → Passes t E msg → heard t msg T ≡ Ok m → Heard t E T msg m
message_heard t E T msg m f st p h =
    let at = message_at t E T msg m f st p h in
    record {
      kept = record { allowed = heard_allowed t msg T m h; shift = heard_shift t E msg T m f at; sent = heard_sent t E msg T m f st p h };
      heard = λ k e.
          let ev = event t.first.0 k msg in
          let ctl = controls t (cic_at t k) in
          subst (λ z. HeardBy ev (placed T k) z (shown t.first.0 k m.sent)) (sym (at k e).now)
          (subst (λ z. HeardBy ev (placed T k) (hears ctl ev (placed T k)).circuit z) (sym (at k e).sent) (heard_laws ctl ev (placed T k) (st.sound k)));
    }

-- a call message of the host
host_own : (first k c : ℕ) (kind : CallKind) (body : List ℕ) (x : Circuit) → of_host kind ≡ true → Own x x (shown first k (call c kind body ∷ []))
host_own first k c kind body x h = go kind h
  where
    by_place : (b : Bool) → Own x x (push (when b progress) [])
    by_place true = progresses x
    by_place false = stays x

    go : (kind : CallKind) → of_host kind ≡ true → Own x x (shown first k (call c kind body ∷ []))
    go Iam h = absurd (false≢true h)
    go Acm h = by_place (eqb k (c - first))
    go Con h = by_place (eqb k (c - first))
    go Anm h = by_place (eqb k (c - first))
    go Cpg h = by_place (eqb k (c - first))

moved : (first : Cic) (ws : List ℕ) (x y : Bool) (E : ℕ → Bool) → Fitting (trunk first ws x) E → {a a' : State} {into l : List (List ℕ)} (b : State)
    → Steps (trunk first ws x) a into a' l → Inv first ws x y E a (with_line into b) → Inv first ws x y E a' (with_line l b)
moved first ws x y E f b (ordered s into words octets o m by h) i =
    inv_acted first ws x y E f s into m b (order_acted (trunk first ws x) E (length s.held) o (lends s words octets) m f i.end_a.standing h) i
moved first ws x y E f b (expired s into words octets timer at kind m h) i =
    inv_acted first ws x y E f s into m b (expiry_acted (trunk first ws x) E (length s.held) timer at kind (lends s words octets) m f i.end_a.standing h) i
moved first ws x y E f b (received s into words octets front m h) i =
    let t = trunk first ws x in
    let on = i.into.0 in
    let a = and_ok (admitted t (length s.held) (lends s words octets)) _ m h in
    let heard_it : heard t on.message s.table ≡ Ok m = subst (λ d. and_then (raised d) (λ z. heard t z s.table) ≡ Ok m) on.read a.2 in
    inv_heard first ws x y E f s front into m b on.message on.read (message_heard t E s.table on.message m f i.end_a.standing on.passes heard_it) i
moved first ws x y E f b (called s into c kind body h l q) i =
    let t = trunk first ws x in
    let st = i.end_a.standing in
    let msg = call c kind body in
    inv_called first ws x y E s into msg b (call_passes t E c kind body f l (found_addressed t E (as_cic c) s.table st q))
    (λ k e. own_laws (placed s.table k) (placed s.table k) (shown first.0 k (msg ∷ [])) (host_own first.0 k c kind body (placed s.table k) h) (st.sound k)) i

-- ## Every state

pub record Known (first : Cic) (ws : List ℕ) (h : Bool) (a b : State) : Type 0 where
  pub fit_near : Fitting (trunk first ws h) (circuits ws)
  pub fit_far : Fitting (trunk first ws (not h)) (circuits ws)
  pub inv : Inv first ws h (not h) (circuits ws) a b

pub known : (first : Cic) (ws : List ℕ) (h : Bool) {a b : State} → Reaches first ws h a b → Known first ws h a b
known first ws h (opened room room' p q) = record { fit_near = fitting room first ws h p; fit_far = fitting room' first ws (not h) q; inv = fresh_inv room room' first ws h (not h) (takes_all room first ws h p) (takes_all room' first ws (not h) q) }
known first ws h (near a b a' l r s) =
    let i = known first ws h r in
    record { fit_near = i.fit_near; fit_far = i.fit_far; inv = moved first ws h (not h) (circuits ws) i.fit_near b s i.inv }
known first ws h (far a b b' l r s) =
    let i = known first ws h r in
    record {
      fit_near = i.fit_near;
      fit_far = i.fit_far;
      inv = swapped first ws (not h) h (circuits ws) b' (with_line l a)
          (moved first ws (not h) h (circuits ws) i.fit_far a s (swapped first ws h (not h) (circuits ws) a b i.inv));
    }

-- ## What is promised

quiet_link : (first : Cic) (k : ℕ) (a b : State) → a.line ≡ [] → b.line ≡ [] → Link (placed a.table k) (placed b.table k) (line_of first.0 k a.line) (line_of first.0 k b.line) → Link (placed a.table k) (placed b.table k) [] []
quiet_link first k a b p q l =
    subst (λ z. Link (placed a.table k) (placed b.table k) z []) (ap (line_of first.0 k) p)
    (subst (λ z. Link (placed a.table k) (placed b.table k) (line_of first.0 k a.line) z) (ap (line_of first.0 k) q) l)

vacant_agrees : (why : BlockType) → block_of why vacant.far ≡ is_standing (block_of why vacant.local)
vacant_agrees Maintenance = refl
vacant_agrees Hardware = refl

knows : (first : Cic) (ws : List ℕ) (x y : Bool) (E : ℕ → Bool) (a b : State) → Inv first ws x y E a b → a.line ≡ [] → b.line ≡ [] → Knows a b
knows first ws x y E a b i p q k why = ⊎_elim
    (λ (e : E k ≡ true). link_agrees (placed a.table k) (placed b.table k) (quiet_link first k a b p q (i.link k e)) why)
    (λ (e : E k ≡ false).
    ap (λ c. block_of why c.far) (i.end_b.standing.empty k e) ∙ (vacant_agrees why ∙ ap (λ c. is_standing (block_of why c.local)) (sym (i.end_a.standing.empty k e))))
    (cases_Bool (E k))

no_reset : (r : Reset) → is_single r ≡ false → is_group r ≡ false → is_waiting r ≡ false
no_reset r p q = grind arith

no_block : (b : LocalBlock) → is_asked b ≡ false → is_lifting b ≡ false → (is_none b || is_set b) ≡ true
no_block b p q = grind arith

rests : (c : Circuit) → ((x : Wait) → waiting x c ≡ false) → Rests c
rests c h = record {
  no_reset = no_reset c.reset (h for_single) (h for_group);
  no_block = λ why. no_block (block_of why c.local) (h (for_block why)) (h (for_lift why));
  no_release = h for_release;
}

vacant_rests : Rests vacant
vacant_rests = rests vacant (λ x. none x)
  where
    none : (x : Wait) → waiting x vacant ≡ false
    none x = grind arith

rest_at : (first : Cic) (ws : List ℕ) (x y : Bool) (E : ℕ → Bool) (a b : State) → Inv first ws x y E a b → a.line ≡ [] → b.line ≡ [] → (k : ℕ) → Rests (placed a.table k)
rest_at first ws x y E a b i p q k = ⊎_elim
    (λ (e : E k ≡ true).
    let l = quiet_link first k a b p q (i.link k e) in
    rests (placed a.table k) (λ w. none_owed (waiting w (placed a.table k)) (l.owes w)))
    (λ (e : E k ≡ false). subst Rests (sym (i.end_a.standing.empty k e)) vacant_rests)
    (cases_Bool (E k))

-- outputs of full size are admitted
full : (t : Config) (s : State) (words octets : List ℕ) → length s.table ≡ t.systems * 32 → length s.table ≤ length s.held → 96 ≤ length words → 320 ≤ length octets
    → admitted t (length s.held) (lends s words octets) ≡ Ok tt
full t s words octets z l g k =
    let b1 : ltb (length s.held) (length s.table) ≡ false = le-ltb (length s.held) (length s.table) l in
    let b2 : eqb (length s.table) (t.systems * 32) ≡ true = eq-eqb (length s.table) (t.systems * 32) z in
    let b3 : ltb (length words) 96 ≡ false = le-ltb (length words) 96 g in
    let b4 : ltb (length octets) 320 ≡ false = le-ltb (length octets) 320 k in
    rw (b1, b2, b3, b4) refl

are_taken : (t : Config) (E : ℕ → Bool) (s : State) (l : List (List ℕ)) → Standing t E s.table → length s.table ≤ length s.held → AllOnLine t E l → AreTaken t s l
are_taken t E s [] st r h = tt
are_taken t E s (o ∷ l) st r h = (
  (λ words octets g k.
      let w = is_accepted t E h.0.message s.table st h.0.passes.addressed in
      rw (full t s words octets st.size r g k, h.0.read, w.1) refl),
  are_taken t E s l st r h.1,
)

-- the words told can be read from their numbers
pub legible : (first : Cic) (ws : List ℕ) (h : Bool) {a b : State} → Reaches first ws h a b → Legible a.told × Legible b.told
legible first ws h r = let i = (known first ws h r).inv in (i.end_a.legible, i.end_b.legible)

pub agreement : Agreement
agreement first ws h a b r =
    let i = (known first ws h r).inv in
    let j = swapped first ws h (not h) (circuits ws) a b i in
    record {
      agree = λ p q. (knows first ws h (not h) (circuits ws) a b i p q, knows first ws (not h) h (circuits ws) b a j q p);
      turns = (i.end_a.turns, i.end_b.turns);
      seizes = (seizes_fairly (trunk first ws h) a i.end_a.standing.size i.end_a.room i.end_a.set, seizes_fairly (trunk first ws (not h)) b i.end_b.standing.size i.end_b.room i.end_b.set);
      taken = (are_taken (trunk first ws (not h)) (circuits ws) b a.line i.end_b.standing i.end_b.room i.out, are_taken (trunk first ws h) (circuits ws) a b.line i.end_a.standing i.end_a.room i.into);
      rest = λ p q k. (rest_at first ws h (not h) (circuits ws) a b i p q k, rest_at first ws (not h) h (circuits ws) b a j q p k);
    }
