-- What is claimed, sentence by sentence. The definitions named must be believed; docs/PROOFS.md has them in order.
use Rattle.std.specs.Prelude.{List, ℕ}
use Rattle.rules.specs.State.{State}
use Rattle.runs.specs.World.{Item, WorldEvent}
use Rattle.settling.specs.Statement.{SettlesUncut}
use Rattle.claims.specs.Demand1.{Demand1}
use Rattle.claims.specs.Demand2.{Demand2}
use Rattle.claims.specs.Requests.{Request1, Request2, Request3, Request4, Request5, Request6, Request7, Request8}
use Rattle.claims.specs.Rooms.{Request9}
use Rattle.claims.specs.Reading.{Request10}
use Rattle.claims.specs.Using.{Request11}

pub record Claims : Type 0 where
  -- Demand 1. Every record, state and buffer is taken; what is refused has one number, and changes nothing.
  pub demand1 : Demand1
  -- Demand 2. Each accepted event does what Moshe and document 01 say; each record comes back the same both ways.
  pub demand2 : Demand2
  -- Demand 3. It settles.
  pub settling : (A : ℕ) (states : ℕ → State) (links : ℕ → ℕ → List Item) (es : List WorldEvent)
      → SettlesUncut A states links es
  -- Request 1. Who are we waiting for?
  pub request1 : Request1
  -- Request 2. Reports that change nothing.
  pub request2 : Request2
  -- Request 3. The desk's own end.
  pub request3 : Request3
  -- Request 4. Who came along from the old view.
  pub request4 : Request4
  -- Request 5. Largest start number.
  pub request5 : Request5
  -- Request 6. Offices with their count.
  pub request6 : Request6
  -- Request 7. A server that loses its current.
  pub request7 : Request7
  -- Request 8. A proposal that claims to have used itself.
  pub request8 : Request8
  -- Request 9. Eight rooms on one server.
  pub request9 : Request9
  -- Request 10. Reading apart from acting.
  pub request10 : Request10
  -- Request 11. One slow proposal, one view.
  pub request11 : Request11
