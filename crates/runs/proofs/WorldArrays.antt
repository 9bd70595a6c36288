-- The world and the arrays: what the arrays say of the offices of F is so in the world.
use mathlib.Core.Path.{◌≡◌, sym, ap, refl, ◌∙◌}
use mathlib.Core.Bool.{Bool, true}
use mathlib.Core.List.{List, [], ◌∷◌, ◌++◌}
use Prim.Native.Nat.{ℕ, ◌+◌, ◌^◌, ◌≤◌, ◌<◌}
use native.Mathlib.Omega.{arith}
use Rattle.laws.specs.Lists.{Every, none, more}
use Rattle.laws.proofs.Lists.{every_append, every_map, every_head, every_tail}
use Rattle.laws.proofs.Fin.{if_cases}
use Rattle.laws.specs.Upd.{upd}
use Rattle.laws.proofs.Upd.{upd_cases}
use Rattle.records.specs.declared.Proposal.{Proposal}
use Rattle.rules.specs.State.{State}
use Rattle.rules.specs.Rules.{Written, notice, proposal, view, Outcome, receives}
use Rattle.rules.specs.Leaving.{own_number}
use Rattle.rules.specs.Refusals.{well_formed, Result, accepted}
use Rattle.runs.specs.World.{Item, World, SentRecord, views_in, mail, logged, answered, with_link, idle}
use Rattle.runs.proofs.Arrays.{Offices, FromF, shows}
use Rattle.runs.specs.Begins.{InF}
use Rattle.laws.proofs.Grid.{upd2_cases}
use Rattle.runs.proofs.StateArrays.{Sim}
use Rattle.runs.proofs.RulesArrays.{Same, Moved, views_logged}
use Rattle.runs.proofs.Valid.{Valid}
use Rattle.runs.proofs.Proposals.{EachProposal, each_map, if_notice, if_proposal, if_view, Begun}

-- an office's state, as it is in every run from a fresh one
pub record Good (s : State) : Type 0 where
  pub passes : well_formed s ≡ true
  pub net : s.net.bits < 2 ^ 64
  pub begun : Begun s

-- what office j is sent satisfies P, where each proposal that it receives does
pub mail_all : (P : Proposal → Type 0) (t j : ℕ) (ws : List Written) → EachProposal (λ p. receives p j ≡ true → P p) ws
    → Every (λ x. P x.proposal) (mail t j ws)
mail_all P t j [] none = none
mail_all P t j (notice n ∷ ws) (more if_notice e) = mail_all P t j ws e
mail_all P t j (view v ∷ ws) (more if_view e) = mail_all P t j ws e
mail_all P t j (proposal p ∷ ws) (more (if_proposal h) e) =
    let r = mail_all P t j ws e in
    if_cases (Every (λ x. P x.proposal)) (receives p j) _ _ (λ b. more (h b) r) (λ b. r)

mail_stamped : (t j : ℕ) (ws : List Written) → Every (λ x. x.sent < t + 1) (mail t j ws)
mail_stamped t j [] = none
mail_stamped t j (notice n ∷ ws) = mail_stamped t j ws
mail_stamped t j (view v ∷ ws) = mail_stamped t j ws
mail_stamped t j (proposal p ∷ ws) =
    let r = mail_stamped t j ws in
    let lt : t < t + 1 = omega arith in
    if_cases (Every (λ x. x.sent < t + 1)) (receives p j) _ _ (λ b. more lt r) (λ b. r)

-- what holds of all that is logged holds of what was sent and of what was logged before
pub logged_every : (P : Written → Type 0) (t : ℕ) (ws : List Written) (l : List SentRecord)
    → Every (λ x. P x.what) (logged t ws l)
    → Every P ws × Every (λ x. P x.what) l
logged_every P t [] l e = (none, e)
logged_every P t (r ∷ ws) l e = let x = logged_every P t ws _ e in (more (every_head x.1) x.0, every_tail x.1)

module _ (F : ℕ → Bool) where
  -- the arrays g say what is so in the world w; of the office x, if it is one, only its links and views
  pub record Seen (x : ℕ) (w : World) (g : Offices) : Type 0 where
    pub sim : (i : ℕ) → InF F i → (i ≡ x → ⊥) → Sim (w.state i) g i
    pub good : (i : ℕ) → InF F i → (i ≡ x → ⊥) → Good (w.state i)
    pub owns : (o : ℕ) → o < 16 → (o ≡ x → ⊥) → (w.state o).own ≡ o
    pub links : (i j : ℕ) → FromF F i j → w.link i j ≡ g.link i j
    pub shown : (i : ℕ) → InF F i → views_in (w.log i) ≡ g.shown i
    pub valid : (i j : ℕ) → FromF F i j → Every (λ x. Valid i j x.proposal) (w.link i j)
    pub stamped : (i j : ℕ) → FromF F i j → Every (λ x. x.sent < w.clock) (w.link i j)
    pub named : (o j : ℕ) → o < 16 → j < 16 → Every (λ x. x.proposal.sender ≡ o) (w.link o j)
    -- what is not below the numbers given out is not below the largest that left
    pub tops : (i : ℕ) → InF F i → (m : ℕ) → Every (λ x. own_number x.what ≤ m) (w.log i) → g.top i ≤ m

  -- of all offices
  abbrev pub SeenAll : World → Offices → Type 0
  SeenAll = Seen 16

  pub below_sixteen : {i : ℕ} → i < 16 → i ≡ 16 → ⊥
  below_sixteen lt e = omega arith

  pub seen_but : (w : World) (g : Offices) (x : ℕ) → SeenAll w g → Seen x w g
  seen_but w g x s = record {
    sim = λ i a n. s.sim i a (below_sixteen a.0);
    good = λ i a n. s.good i a (below_sixteen a.0);
    owns = λ o lt n. s.owns o lt (below_sixteen lt);
    links = s.links;
    shown = s.shown;
    valid = s.valid;
    stamped = s.stamped;
    named = s.named;
    tops = s.tops;
  }

  -- the arrays h say the same of the own parts of office i as g
  pub record SameOwn (g h : Offices) (i : ℕ) : Type 0 where
    pub num : h.num i ≡ g.num i
    pub mode : h.mode i ≡ g.mode i
    pub net : h.net i ≡ g.net i
    pub stored : h.stored i ≡ g.stored i
    pub acc : h.acc i ≡ g.acc i
    pub used : h.used i ≡ g.used i

  sim_kept : (s : State) (g h : Offices) (i : ℕ) → SameOwn g h i → Sim s g i → Sim s h i
  sim_kept s g h i e v = record {
    own = v.own;
    num = v.num ∙ sym e.num;
    mode = v.mode ∙ sym e.mode;
    net = v.net ∙ sym e.net;
    stored = λ o lt. v.stored o lt ∙ sym (ap (λ f. f o) e.stored);
    acc = λ o lt. v.acc o lt ∙ sym (ap (λ f. f o) e.acc);
    used = λ o lt. v.used o lt ∙ sym (ap (λ f. f o) e.used);
  }

  same_kept : {g h : Offices} {i : ℕ} → Same g h i → SameOwn g h i
  same_kept e = record { num = e.num; mode = e.mode; net = e.net; stored = e.stored; acc = e.acc; used = e.used }

  -- what the world must know of the proposals that office me sends
  pub record Sends (me : ℕ) (ws : List Written) : Type 0 where
    pub valid : EachProposal (λ p. (j : ℕ) → receives p j ≡ true → Valid me j p) ws
    pub names : EachProposal (λ p. p.sender ≡ me) ws

  -- what the world must know of the answer of office me
  pub record GoodAnswer (me : ℕ) (o : Outcome) : Type 0 where
    pub is_good : Good o.state
    pub own : o.state.own ≡ me
    pub sends : EachProposal (λ p. (j : ℕ) → receives p j ≡ true → Valid me j p) o.written
    pub names : EachProposal (λ p. p.sender ≡ me) o.written

  module _ (w : World) (g k : Offices) (me : ℕ) (o : Outcome) (s : Seen me w g) (a : GoodAnswer me o) where
    each_to : (j : ℕ) → EachProposal (λ p. (j : ℕ) → receives p j ≡ true → Valid me j p) o.written
        → EachProposal (λ p. receives p j ≡ true → Valid me j p) o.written
    each_to j e = each_map (λ p h. h j) e

    row_all : (P : ℕ → ℕ → Item → Type 0) (i j : ℕ) → Every (P i j) (w.link i j)
        → Every (P me j) (mail w.clock j o.written)
        → Every (P i j) ((answered w me (accepted o)).link i j)
    unfolding answered
    row_all P i j old new =
        upd_cases (λ (i : ℕ) (f : ℕ → List Item). (i ≡ me → Every (P me j) (w.link me j))
        → (Every (P i j) (w.link i j)) → Every (P i j) (f j)) w.link me _ i
        (λ q r. every_append (q refl) new) (λ n q r. r) (λ e. rw e at old) old

    -- an answer of an office of A, with the arrays that it moved
    pub seen_moved : InF F me → Moved w.clock me g o k → SeenAll (answered w me (accepted o)) k
    unfolding answered
    seen_moved q m = record {
      sim = λ i b n. upd_cases (λ (i : ℕ) (s : State). InF F i → Sim s k i) w.state me o.state i (λ b. m.sim)
          (λ n b. sim_kept (w.state i) g k i (same_kept (m.elsewhere i n)) (s.sim i b n)) b;
      good = λ i b n. upd_cases (λ (i : ℕ) (s : State). InF F i → Good s) w.state me o.state i (λ b. a.is_good)
          (λ n b. s.good i b n) b;
      owns = λ i b n. upd_cases (λ (i : ℕ) (s : State). i < 16 → s.own ≡ i) w.state me o.state i (λ b. a.own)
          (λ n b. s.owns i b n) b;
      links = λ i j b. upd_cases (λ (i : ℕ) (f : ℕ → List Item). FromF F i j → f j ≡ k.link i j) w.link me _ i
          (λ b. ap (λ (l : List Item). l ++ mail w.clock j o.written) (s.links me j b)
          ∙ sym (m.mailed j b.1))
          (λ e b. s.links i j b ∙ sym (ap (λ f. f j) (m.elsewhere i e).link)) b;
      shown = λ i b. upd_cases (λ (i : ℕ) (l : List SentRecord). InF F i → views_in l ≡ k.shown i) w.log me _ i
          (λ b. views_logged w.clock o.written (w.log me) ∙ ap (shows w.clock o.written) (s.shown me b)
          ∙ sym m.showed) (λ e b. s.shown i b ∙ sym (m.elsewhere i e).shown) b;
      valid = λ i j b. row_all (λ i j x. Valid i j x.proposal) i j (s.valid i j b)
          (mail_all (Valid me j) w.clock j o.written (each_to j a.sends));
      stamped = λ i j b. row_all (λ i j x. x.sent < w.clock + 1) i j
          (every_map (λ x e. omega arith) (s.stamped i j b)) (mail_stamped w.clock j o.written);
      named = λ i j b c. row_all (λ i j x. x.proposal.sender ≡ i) i j (s.named i j b c)
          (mail_all (λ p. p.sender ≡ me) w.clock j o.written (each_map (λ p e f. e) a.names));
      tops = λ i b n. upd_cases (λ (i : ℕ) (l : List SentRecord). InF F i → Every (λ x. own_number x.what ≤ n) l
          → k.top i ≤ n) w.log me _ i
          (λ b e. let x = logged_every (λ w. own_number w ≤ n) w.clock o.written (w.log me) e in
          m.topped n (s.tops me b n x.1) x.0)
          (λ d b e. rw (m.elsewhere i d).top (s.tops i b n e)) b;
    }

  -- the link from i to j becomes l, and the arrays h after g, of office x perhaps more
  pub record Linked (w : World) (g h : Offices) (x i j : ℕ) (l : List Item) : Type 1 where
    pub kept : (a : ℕ) → (a ≡ x → ⊥) → SameOwn g h a
    pub same_shown : h.shown ≡ g.shown
    pub same_top : h.top ≡ g.top
    pub links : (a b : ℕ) → FromF F a b → (with_link w i j l).link a b ≡ h.link a b
    pub part : (P : Item → Type 0) → Every P (w.link i j) → Every P l

  pub seen_linked : (w : World) (g h : Offices) (x i j : ℕ) (l : List Item) → SeenAll w g → Linked w g h x i j l
      → Seen x (with_link w i j l) h
  unfolding with_link
  seen_linked w g h x i j l s k = record {
    sim = λ a b n. sim_kept (w.state a) g h a (k.kept a n) (s.sim a b (below_sixteen b.0));
    good = λ a b n. s.good a b (below_sixteen b.0);
    owns = λ a b n. s.owns a b (below_sixteen b);
    links = k.links;
    shown = λ a b. s.shown a b ∙ sym (ap (λ f. f a) k.same_shown);
    valid = λ a b p. place (λ a b x. Valid a b x.proposal) a b (s.valid a b p);
    stamped = λ a b p. place (λ a b x. x.sent < w.clock) a b (s.stamped a b p);
    named = λ a b p q. place (λ a b x. x.proposal.sender ≡ a) a b (s.named a b p q);
    tops = λ a b m e. rw (ap (λ f. f a) k.same_top) (s.tops a b m e);
  }
    where
      place : (P : ℕ → ℕ → Item → Type 0) (a b : ℕ) → Every (P a b) (w.link a b)
          → Every (P a b) (upd w.link i (upd (w.link i) j l) a b)
      place P a b old =
          upd2_cases (λ a b (m : List Item). Every (P a b) (w.link a b) → Every (P a b) m) w.link i j l a b
          (k.part (P i j)) (λ n o. o) old

  -- nothing happens
  pub seen_idle : (w : World) (g : Offices) → SeenAll w g → SeenAll (idle w) g
  unfolding idle
  seen_idle w g s = record {
    sim = s.sim;
    good = s.good;
    owns = s.owns;
    links = s.links;
    shown = s.shown;
    valid = s.valid;
    stamped = λ i j b. every_map (λ x e. omega arith) (s.stamped i j b);
    named = s.named;
    tops = s.tops;
  }

  -- an answer of an office that is not of F
  pub seen_outside : (w : World) (g : Offices) (o : ℕ) (r : Result) → SeenAll w g → o < 16 → (InF F o → ⊥)
      → r.state.own ≡ o → EachProposal (λ p. p.sender ≡ o) r.written → SeenAll (answered w o r) g
  unfolding answered
  seen_outside w g o r s lt out own e = record {
    sim = λ i b n. upd_cases (λ (i : ℕ) (s : State). InF F i → Sim s g i) w.state o r.state i
        (λ b. absurd (out b)) (λ m b. s.sim i b n) b;
    good = λ i b n. upd_cases (λ (i : ℕ) (s : State). InF F i → Good s) w.state o r.state i
        (λ b. absurd (out b)) (λ m b. s.good i b n) b;
    owns = λ i b n. upd_cases (λ (i : ℕ) (s : State). i < 16 → s.own ≡ i) w.state o r.state i (λ b. own)
        (λ m b. s.owns i b n) b;
    links = λ i j b. upd_cases (λ (i : ℕ) (f : ℕ → List Item). FromF F i j → f j ≡ g.link i j) w.link o _ i
        (λ b. absurd (out b.0)) (λ m b. s.links i j b) b;
    shown = λ i b. upd_cases (λ (i : ℕ) (l : List SentRecord). InF F i → views_in l ≡ g.shown i) w.log o _ i
        (λ b. absurd (out b)) (λ m b. s.shown i b) b;
    valid = λ i j b. upd_cases (λ (i : ℕ) (f : ℕ → List Item). FromF F i j
        → Every (λ x. Valid i j x.proposal) (f j)) w.link o _ i
        (λ b. absurd (out b.0)) (λ m b. s.valid i j b) b;
    stamped = λ i j b. upd_cases (λ (i : ℕ) (f : ℕ → List Item). FromF F i j
        → Every (λ x. x.sent < w.clock + 1) (f j)) w.link o _ i
        (λ b. absurd (out b.0)) (λ m b. every_map (λ x e. omega arith) (s.stamped i j b)) b;
    named = λ i j b c. upd_cases (λ (i : ℕ) (f : ℕ → List Item). i < 16 → Every (λ x. x.proposal.sender ≡ i) (f j))
        w.link o _ i
        (λ b. every_append (s.named o j b c)
        (mail_all (λ p. p.sender ≡ o) w.clock j r.written (each_map (λ p e f. e) e)))
        (λ m b. s.named i j b c) b;
    tops = λ i b n. upd_cases (λ (i : ℕ) (l : List SentRecord). InF F i → Every (λ x. own_number x.what ≤ n) l
        → g.top i ≤ n) w.log o _ i
        (λ b. absurd (out b)) (λ d b e. s.tops i b n e) b;
  }

  -- the arrays change for office x alone, and not its links and its views
  pub seen_turned : (w : World) (g h : Offices) (x : ℕ) → SeenAll w g → ((a : ℕ) → (a ≡ x → ⊥) → SameOwn g h a)
      → h.link ≡ g.link → h.shown ≡ g.shown
      → h.top ≡ g.top → Seen x w h
  seen_turned w g h x s k l v u = record {
    sim = λ a b n. sim_kept (w.state a) g h a (k a n) (s.sim a b (below_sixteen b.0));
    good = λ a b n. s.good a b (below_sixteen b.0);
    owns = λ a b n. s.owns a b (below_sixteen b);
    links = λ a b p. s.links a b p ∙ sym (ap (λ f. f a b) l);
    shown = λ a b. s.shown a b ∙ sym (ap (λ f. f a) v);
    valid = s.valid;
    stamped = s.stamped;
    named = s.named;
    tops = λ a b m e. rw (ap (λ f. f a) u) (s.tops a b m e);
  }
