-- What a mark calls for: a kind of record that reaches the server, or no record, and the length of that kind.
use Rattle.std.specs.Prelude.{ℕ}

pub data RecordKind : Type 0 where
  Report : RecordKind
  Proposal : RecordKind
  Other : RecordKind

pub record Form : Type 0 where
  pub kind : RecordKind
  pub length : ℕ
