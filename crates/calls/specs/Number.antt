-- What a call for C answers in one number.
use Rattle.std.specs.Prelude.{ℕ, ◌+◌, ◌*◌}

-- 256 times a value, and the refusal or 0
abbrev pub call_number : ℕ → ℕ → ℕ
call_number value refusal = 256 * value + refusal
