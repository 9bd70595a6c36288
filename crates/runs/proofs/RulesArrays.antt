-- What the rules do to one office, done to the arrays: the two tests and all that they write.
use mathlib.Core.Path.{◌≡◌, refl, sym, ap, ◌∙◌}
use mathlib.Core.Bool.{Bool, true, false}
use mathlib.Core.List.{List, [], ◌∷◌, ◌++◌, append_assoc, append-nil}
use Prim.Native.Nat.{ℕ, ◌≤◌, ◌<◌}
use native.Mathlib.Omega.{arith}
use native.Mathlib.Decide.{dec_lt}
use Rattle.laws.proofs.Fin.{if_cases, anyb_none, true_false, largest_ext}
use Rattle.laws.proofs.Tab.{tab_ext}
use Rattle.laws.specs.Lists.{Every}
use Rattle.laws.proofs.Lists.{every_split, every_head}
use Rattle.laws.specs.Upd.{ifb}
use Rattle.laws.proofs.Upd.{upd_same, upd_other}
use Rattle.seats.specs.Offices.{serves}
use Rattle.records.specs.declared.Proposal.{Proposal}
use Rattle.rules.specs.State.{Mode, None, Fast, Slow, Slot, State, fast, slow, kind_of, used_for}
use Rattle.rules.specs.Rules.{Written, notice, proposal, view, Outcome, nothing_written, and_then, receives}
use Rattle.rules.specs.Rules.{has_recipient, own_proposal, proposed, opens, in_slot, start_of, view_of, concluded}
use Rattle.rules.specs.Rules.{slow_called, slow_number, next_number, begins_in, proposes_slow, proposes_fast}
use Rattle.rules.specs.Leaving.{own_number}
use Rattle.rule_laws.proofs.Parts.{made_is, made_used}
use Rattle.rule_laws.proofs.Tests.{Matching, Above, Cause, in_mode_none, heard_slow, is_used, heard_above, NotCalled}
use Rattle.rule_laws.proofs.Tests.{NumberFrom, joins, starts, Agreeing, AllAgree, called_out, not_called}
use Rattle.rule_laws.proofs.Tests.{slow_number_lem, slow_above, next_above, agreed_out, agreed_in}
use Rattle.rule_laws.proofs.Walk.{slow_round, concludes, Tested}
use Rattle.runs.specs.World.{Item, SentRecord, SentView, mail, logged, views_in}
use Rattle.runs.proofs.Arrays as off
use Rattle.runs.proofs.Arrays.{shows, Offices, mail_to, propose, conclude, view_with, Match, other, Proposes}
use Rattle.runs.proofs.Arrays.{Calls, Silent, Joinable, Chosen, Agrees, Agreed, SlowTest, AgreementTest, Tests}
use Rattle.runs.proofs.StateArrays.{Sim, sim_open, sim_propose, sim_conclude}

-- the view of a set depends on the start numbers of the set's offices alone
ifb_same : (b : Bool) (x y : ℕ) → (b ≡ true → x ≡ y) → ifb b x 0 ≡ ifb b y 0
ifb_same true x y e = e refl
ifb_same false x y e = refl

pub view_ext : (x : ℕ) (f h : ℕ → ℕ) → ((o : ℕ) → o < 16 → serves x o ≡ true → f o ≡ h o)
    → view_with x f ≡ view_with x h
unfolding view_with
view_ext x f h e =
    let a = largest_ext 16 (λ o. ifb (serves x o) (f o) 0) (λ o. ifb (serves x o) (h o) 0)
    (λ o l. ifb_same (serves x o) (f o) (h o) (e o l)) in
    let b = tab_ext 16 (λ o. ifb (serves x o) (f o) 0) (λ o. ifb (serves x o) (h o) 0)
    (λ o l. ifb_same (serves x o) (f o) (h o) (e o l)) in
    rw (a, b)

-- what an answer sends, part by part
mail_proposal : (b : Bool) (x : Item) (l k : List Item) → ifb b (x ∷ l) l ++ k ≡ ifb b (x ∷ (l ++ k)) (l ++ k)
mail_proposal true x l k = refl
mail_proposal false x l k = refl

pub mail_append : (t j : ℕ) (a b : List Written) → mail t j (a ++ b) ≡ mail t j a ++ mail t j b
mail_append t j [] b = refl
mail_append t j (notice n ∷ a) b = mail_append t j a b
mail_append t j (proposal p ∷ a) b =
    let e = mail_append t j a b in
    rw e (sym (mail_proposal (receives p j) (record { proposal = p; sent = t }) (mail t j a) (mail t j b)))
mail_append t j (view v ∷ a) b = mail_append t j a b

pub views_logged : (t : ℕ) (ws : List Written) (l : List SentRecord)
    → views_in (logged t ws l) ≡ shows t ws (views_in l)
views_logged t [] l = refl
views_logged t (notice n ∷ ws) l = views_logged t ws (record { what = notice n; clock = t } ∷ l)
views_logged t (proposal p ∷ ws) l = views_logged t ws (record { what = proposal p; clock = t } ∷ l)
views_logged t (view v ∷ ws) l = views_logged t ws (record { what = view v; clock = t } ∷ l)

pub shows_append : (t : ℕ) (a b : List Written) (vs : List SentView) → shows t (a ++ b) vs ≡ shows t b (shows t a vs)
shows_append t [] b vs = refl
shows_append t (notice n ∷ a) b vs = shows_append t a b vs
shows_append t (proposal p ∷ a) b vs = shows_append t a b vs
shows_append t (view v ∷ a) b vs = shows_append t a b (record { view = v; sent = t } ∷ vs)

mail_one : (t j : ℕ) (p : Proposal) → mail t j (proposal p ∷ []) ≡ mail_to t p j
unfolding receives
mail_one t j p = refl

-- what the arrays say of office i is the same in g and h
pub record Same (g h : Offices) (i : ℕ) : Type 0 where
  pub num : h.num i ≡ g.num i
  pub mode : h.mode i ≡ g.mode i
  pub net : h.net i ≡ g.net i
  pub stored : h.stored i ≡ g.stored i
  pub acc : h.acc i ≡ g.acc i
  pub used : h.used i ≡ g.used i
  pub link : h.link i ≡ g.link i
  pub shown : h.shown i ≡ g.shown i
  pub top : h.top i ≡ g.top i

pub same_refl : (g : Offices) (i : ℕ) → Same g g i
same_refl g i = record {
  num = refl;
  mode = refl;
  net = refl;
  stored = refl;
  acc = refl;
  used = refl;
  link = refl;
  shown = refl;
  top = refl;
}

same_trans : {g h k : Offices} {i : ℕ} → Same g h i → Same h k i → Same g k i
same_trans a b = record {
  num = b.num ∙ a.num;
  mode = b.mode ∙ a.mode;
  net = b.net ∙ a.net;
  stored = b.stored ∙ a.stored;
  acc = b.acc ∙ a.acc;
  used = b.used ∙ a.used;
  link = b.link ∙ a.link;
  shown = b.shown ∙ a.shown;
  top = b.top ∙ a.top;
}

same_propose : (g : Offices) (me : ℕ) (m : Mode) (p : Proposal) (t i : ℕ) → (i ≡ me → ⊥)
    → Same g (propose g me m p t) i
unfolding propose
same_propose g me m p t i n = record {
  num = upd_other g.num me _ i n;
  mode = upd_other g.mode me _ i n;
  net = refl;
  stored = upd_other g.stored me _ i n;
  acc = refl;
  used = refl;
  link = upd_other g.link me _ i n;
  shown = refl;
  top = upd_other g.top me _ i n;
}

same_conclude : (g : Offices) (me t i : ℕ) → (i ≡ me → ⊥) → Same g (conclude g me t) i
unfolding conclude
same_conclude g me t i n = record {
  num = refl;
  mode = upd_other g.mode me _ i n;
  net = refl;
  stored = upd_other g.stored me _ i n;
  acc = refl;
  used = upd_other g.used me _ i n;
  link = refl;
  shown = upd_other g.shown me _ i n;
  top = refl;
}

-- the outcome o of office me is what the arrays became: h after g
pub record Moved (t me : ℕ) (g : Offices) (o : Outcome) (h : Offices) : Type 0 where
  pub sim : Sim o.state h me
  pub mailed : (j : ℕ) → j < 16 → h.link me j ≡ g.link me j ++ mail t j o.written
  pub showed : h.shown me ≡ shows t o.written (g.shown me)
  pub topped : (m : ℕ) → g.top me ≤ m → Every (λ w. own_number w ≤ m) o.written → h.top me ≤ m
  pub elsewhere : (i : ℕ) → (i ≡ me → ⊥) → Same g h i

pub moved_none : (t me : ℕ) (g : Offices) (s : State) → Sim s g me → Moved t me g (nothing_written s) g
moved_none t me g s h = record {
  sim = h;
  mailed = λ j lt. sym (append-nil (g.link me j));
  showed = refl;
  topped = λ m l e. l;
  elsewhere = λ i n. same_refl g i;
}

pub moved_then : (t me : ℕ) (g h k : Offices) (o : Outcome) (f : State → Outcome) → Moved t me g o h
    → Moved t me h (f o.state) k
    → Moved t me g (and_then o f) k
unfolding and_then
moved_then t me g h k o f a b = record {
  sim = b.sim;
  mailed = λ j lt. b.mailed j lt ∙ ap (λ (l : List Item). l ++ mail t j (f o.state).written) (a.mailed j lt)
      ∙ append_assoc (g.link me j) (mail t j o.written) (mail t j (f o.state).written)
      ∙ ap (λ (l : List Item). g.link me j ++ l) (sym (mail_append t j o.written (f o.state).written));
  showed = b.showed ∙ ap (shows t (f o.state).written) a.showed
      ∙ sym (shows_append t o.written (f o.state).written (g.shown me));
  topped = λ m l e. let x = every_split o.written e in b.topped m (a.topped m l x.0) x.1;
  elsewhere = λ i n. same_trans (a.elsewhere i n) (b.elsewhere i n);
}

module _ (t me : ℕ) (s : State) (g : Offices) (h : Sim s g me) where
  -- facts of the state, said of the arrays, and back
  to_match : (o : ℕ) → o < 16 → Matching s o → (o ≡ me → ⊥) × Match g me o
  to_match o lt m =
      let e = sym (h.stored o lt) in (
        (λ q. m.another (q ∙ sym h.own)),
        (
          ap (λ (v : Slot). v.present) e ∙ m.is_there,
          ap (λ (v : Slot). v.proposal.members.bits) e
              ∙ m.same_members ∙ h.net,
        ),
      )

  from_match : (o : ℕ) → o < 16 → (o ≡ me → ⊥) → Match g me o → Matching s o
  from_match o lt n m =
      let e = h.stored o lt in
      record {
        another = λ q. n (q ∙ h.own);
        is_there = ap (λ (v : Slot). v.present) e ∙ m.0;
        same_members = ap (λ (v : Slot). v.proposal.members.bits) e ∙ m.1 ∙ sym h.net;
      }

  kind_is : (o : ℕ) → o < 16 → (in_slot s o).kind ≡ (other g me o).kind
  kind_is o lt = ap (λ (v : Slot). v.proposal.kind) (h.stored o lt)

  number_is : (o : ℕ) → o < 16 → (in_slot s o).number ≡ (other g me o).number
  number_is o lt = ap (λ (v : Slot). v.proposal.number) (h.stored o lt)

  used_is : (o : ℕ) → o < 16 → used_for (in_slot s o) s.own ≡ used_for (other g me o) me
  used_is o lt = ap (λ (v : Slot). used_for v.proposal s.own) (h.stored o lt)
      ∙ ap (used_for (other g me o)) h.own

  to_joinable : (o : ℕ) → o < 16 → Above s o → Joinable g me o
  to_joinable o lt a =
      let m = to_match o lt a.matches in
      let p = a.above in
      let q = number_is o lt in
      let r = h.num in
      (lt, m.0, m.1, sym (kind_is o lt) ∙ a.is_slow, omega arith)

  from_joinable : (o : ℕ) → Joinable g me o → Above s o
  from_joinable o j =
      let p = j.4 in
      let q = number_is o j.0 in
      let r = h.num in
      record { matches = from_match o j.0 j.1 j.2; is_slow = kind_is o j.0 ∙ j.3; above = omega arith }

  to_calls : Cause s → Calls g me
  to_calls (in_mode_none e) = off.Calls.in_mode_none (sym h.mode ∙ e)
  to_calls (heard_slow e o lt m k) = let w = to_match o lt m in
      off.Calls.heard_slow (sym h.mode ∙ e) o lt w.0 w.1 (sym (kind_is o lt) ∙ k)
  to_calls (is_used o lt m e) = let w = to_match o lt m in
      off.Calls.is_used o lt w.0 w.1 (sym (used_is o lt) ∙ e ∙ h.num)
  to_calls (heard_above e o lt a) = let j = to_joinable o lt a in
      off.Calls.heard_above (sym h.mode ∙ e) o lt j.1 j.2 j.3 j.4

  to_silent : NotCalled s → Silent g me
  to_silent c = record {
    busy = λ e. c.busy (h.mode ∙ e);
    no_slow = λ e o lt n m k. c.no_slow (h.mode ∙ e) o lt (from_match o lt n m) (kind_is o lt ∙ k);
    not_used = λ o lt n m e. c.not_used o lt (from_match o lt n m) (used_is o lt ∙ e ∙ sym h.num);
    not_above_lem = λ e o lt n m k. below e o lt n m k (dec_lt (g.num me) (other g me o).number);
  }
    where
      below : g.mode me ≡ Slow → (o : ℕ) → o < 16 → (o ≡ me → ⊥) → Match g me o → (other g me o).kind ≡ slow
          → Dec (g.num me < (other g me o).number) → (other g me o).number ≤ g.num me
      below e o lt n m k (yes a) = absurd (c.not_above_lem (h.mode ∙ e) o lt (from_joinable o (lt, n, m, k, a)))
      below e o lt n m k (no a) = omega arith

  to_chosen : (n : ℕ) → NumberFrom s n → Chosen g me n
  to_chosen n (joins o lt a e m) =
      off.Chosen.joins o (to_joinable o lt a) (e ∙ number_is o lt)
      (λ q j. let x = m q j.0 (from_joinable q j) in let y = number_is q j.0 in omega arith)
  to_chosen n (starts f e) = off.Chosen.starts (λ q j. f q j.0 (from_joinable q j))

  to_agreed : AllAgree s → Agreed g me
  to_agreed a = record {
    busy = λ e. a.busy (h.mode ∙ e);
    every = λ o lt v. one o lt (a.every o lt (ap (λ (x : ℕ). serves x o) h.net ∙ v));
  }
    where
      one : (o : ℕ) → o < 16 → Agreeing s o → Agrees g me o
      one o lt q =
          let e = sym (h.stored o lt) in (
            (
              ap (λ (v : Slot). v.present) e ∙ q.is_there,
              ap (λ (v : Slot). v.proposal.members.bits) e
                  ∙ q.same_members ∙ h.net,
            ),
            sym (kind_is o lt) ∙ q.of_kind ∙ ap kind_of h.mode,
            λ m. sym (number_is o lt) ∙ q.own_number_lem (h.mode ∙ m) ∙ h.num,
          )

  from_agreed : Agreed g me → AllAgree s
  from_agreed a = record {
    busy = λ e. a.busy (sym h.mode ∙ e);
    every = λ o lt v. one o lt (a.every o lt (ap (λ (x : ℕ). serves x o) (sym h.net) ∙ v));
  }
    where
      one : (o : ℕ) → o < 16 → Agrees g me o → Agreeing s o
      one o lt q =
          let e = h.stored o lt in
          record {
            is_there = ap (λ (v : Slot). v.present) e ∙ q.0.0;
            of_kind = kind_is o lt ∙ q.1 ∙ ap kind_of (sym h.mode);
            same_members = ap (λ (v : Slot). v.proposal.members.bits) e ∙ q.0.1 ∙ sym h.net;
            own_number_lem = λ m. number_is o lt ∙ q.2 (sym h.mode ∙ m) ∙ sym h.num;
          }

  -- the proposal that the office makes
  pub to_proposes : (m : Mode) (n : ℕ) → s.number < n → Proposes g me (kind_of m) (own_proposal m n s)
  to_proposes m n lt =
      let w = made_is s m n in
      let a = h.num in
      let b = w.4 in
      record {
        from = w.0 ∙ h.own;
        of_kind = w.1;
        of_net = w.2 ∙ h.net;
        above = omega arith;
        with_used_lem = λ o l. made_used s m n o l ∙ rw (h.net, h.used o l);
      }

  -- what is written is the proposal, where it has a recipient
  pub moved_propose : (m : Mode) (n : ℕ) (ws : List Written)
      → ((j : ℕ) → j < 16 → mail t j ws ≡ mail_to t (own_proposal m n s) j) → shows t ws (g.shown me) ≡ g.shown me
      → ((k : ℕ) → Every (λ w. own_number w ≤ k) ws → has_recipient (own_proposal m n s) ≡ true
      → (own_proposal m n s).number ≤ k)
      → Moved t me g (record { state = proposed m n s; written = ws }) (propose g me m (own_proposal m n s) t)
  unfolding propose
  moved_propose m n ws e v y = record {
    sim = sim_propose s g me h m n t;
    mailed = λ j lt. ap (λ f. f j) (upd_same g.link me _)
        ∙ ap (λ (l : List Item). g.link me j ++ l) (sym (e j lt));
    showed = sym v;
    topped = λ k l z. rw (upd_same g.top me)
        (if_cases (λ (x : ℕ). x ≤ k) (has_recipient (own_proposal m n s)) (own_proposal m n s).number (g.top me) (y k z)
        (λ q. l));
    elsewhere = same_propose g me m (own_proposal m n s) t;
  }

  view_same : view_of s ≡ view_with (g.net me) (λ o. (g.stored me o).proposal.start)
  unfolding view_of start_of view_with
  view_same = view_ext s.net.bits (λ o. (in_slot s o).start) (λ o. (g.stored me o).proposal.start)
      (λ o lt v. ap (λ (v : Slot). v.proposal.start) (h.stored o lt))
      ∙ ap (λ (x : ℕ). view_with x (λ o. (g.stored me o).proposal.start)) h.net

  moved_conclude : Moved t me g (record { state = concluded s; written = view (view_of s) ∷ [] }) (conclude g me t)
  unfolding conclude
  moved_conclude = record {
    sim = sim_conclude s g me h t;
    mailed = λ j lt. sym (append-nil (g.link me j));
    topped = λ k l z. l;
    showed = upd_same g.shown me _ ∙ ap (λ v. record { view = v; sent = t } ∷ g.shown me) (sym view_same);
    elsewhere = same_conclude g me t;
  }

  pub begins : (m : Mode) → Sim (begins_in m s).state g me × Moved t me g (begins_in m s) g
  unfolding opens
  begins None = (
    sim_open s g me h,
    record {
      sim = sim_open s g me h;
      mailed = λ j lt. sym (append-nil (g.link me j));
      showed = refl;
      topped = λ m l e. l;
      elsewhere = λ i n. same_refl g i;
    },
  )
  begins Fast = (h, moved_none t me g s h)
  begins Slow = (h, moved_none t me g s h)

module _ (t me : ℕ) where
  proposes_slow_lem : (s : State) (g : Offices) → Sim s g me
      → (k : Offices) × (k ≡ propose g me Slow (own_proposal Slow (slow_number s) s) t)
      × Moved t me g (proposes_slow s) k
  unfolding proposes_slow
  proposes_slow_lem s g h = (
    propose g me Slow (own_proposal Slow (slow_number s) s) t,
    refl,
    moved_propose t me s g h Slow (slow_number s) _
        (λ j lt. mail_one t j _) refl (λ k z q. every_head z),
  )

  slow_called_lem : (s u : State) (g : Offices) → Sim s g me → Sim u g me → slow_called s ≡ true
      → SlowTest t me g (propose g me Slow (own_proposal Slow (slow_number u) u) t)
  slow_called_lem s u g h k e =
      off.SlowTest.called (own_proposal Slow (slow_number u) u) (to_calls t me s g h (called_out s e))
      (to_proposes t me u g k Slow (slow_number u) (slow_above u))
      (rw (made_is u Slow (slow_number u)).4 (to_chosen t me u g k (slow_number u) (slow_number_lem u)))

  -- The two tests, from outcomes so far that moved the arrays g to h: the arrays that they leave.
  pub moving : (g h : Offices)
      → Tested (λ o. Moved t me g o h) (λ o. (k : Offices) × SlowTest t me h k × Moved t me g o k) (λ o. (k : Offices)
      × Tests t me h k × Moved t me g o k)
  moving g h = record {
    called = λ o m e.
        let s = o.state in
        let b = begins t me s h m.sim s.mode in
        let u = (begins_in s.mode s).state in
        let p = proposes_slow_lem u h b.0 in (
          p.0,
          rw p.1 (slow_called_lem s u h m.sim b.0 e),
          moved_then t me g h p.0 o slow_round m
              (moved_then t me h h p.0 (begins_in s.mode s) proposes_slow b.1 p.2),
        );
    uncalled = λ o m e. (
      h,
      off.SlowTest.not_called (to_silent t me o.state h m.sim (not_called o.state e)),
      m,
    );
    agrees = λ o b e.
        let m = b.2 in (
          conclude b.0 me t,
          off.Tests.both b.1
              (off.AgreementTest.agreed (to_agreed t me o.state b.0 m.sim (agreed_out o.state e))),
          moved_then t me g b.0 (conclude b.0 me t) o concludes m
              (moved_conclude t me o.state b.0 m.sim),
        );
    unagreed = λ o b e. (
      b.0,
      off.Tests.both b.1 (off.AgreementTest.not_agreed
          (λ a. true_false _ (agreed_in o.state (from_agreed t me o.state b.0 b.2.sim a)) e)),
      b.2,
    );
  }

  -- where a fast proposal has no recipient, no link gets it
  fast_mail : (p : Proposal) (j : ℕ) → j < 16 → mail t j (ifb (has_recipient p) (proposal p ∷ []) []) ≡ mail_to t p j
  fast_mail p j lt =
      if_cases (λ (ws : List Written). mail t j ws ≡ mail_to t p j) (has_recipient p) _ _ (λ e. mail_one t j p)
      (λ e. nobody e)
    where
      nobody : has_recipient p ≡ false → [] ≡ mail_to t p j
      nobody e = let n = anyb_none 16 (receives p) e j lt in rw n at (mail_one t j p)

  fast_shows : (p : Proposal) (vs : List SentView) → shows t (ifb (has_recipient p) (proposal p ∷ []) []) vs ≡ vs
  fast_shows p vs = if_cases (λ (ws : List Written). shows t ws vs ≡ vs) (has_recipient p) _ _ (λ e. refl) (λ e. refl)

  fast_top : (p : Proposal) (k : ℕ) → Every (λ w. own_number w ≤ k) (ifb (has_recipient p) (proposal p ∷ []) [])
      → has_recipient p ≡ true → p.number ≤ k
  fast_top p k z q = let y : Every (λ w. own_number w ≤ k) (proposal p ∷ []) = rw q at z in every_head y

  -- step 3 and a fast proposal
  pub fast_moves : (s : State) (g : Offices) → Sim s g me → let u = (opens s).state in
      let p = own_proposal Fast (next_number u) u in
      Proposes g me fast p × Moved t me g (and_then (opens s) proposes_fast) (propose g me Fast p t)
  unfolding proposes_fast
  fast_moves s g h =
      let b = begins t me s g h None in
      let u = (opens s).state in
      let p = own_proposal Fast (next_number u) u in (
        to_proposes t me u g b.0 Fast (next_number u) (next_above u),
        moved_then t me g g (propose g me Fast p t) (opens s) proposes_fast b.1
            (moved_propose t me u g b.0 Fast (next_number u) _ (fast_mail p) (fast_shows p (g.shown me))
            (fast_top p)),
      )
