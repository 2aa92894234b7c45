-- The draws of the generator. A draw makes a new state of 32 bits, and takes a number below k from its upper half.
--     stepped x      the state behind x
--     drawn x k      the number below k that the state x gives
use Rattle.std.specs.Prelude.{ℕ, ◌+◌, ◌*◌, ◌/◌, ◌%◌}

unfoldable pub stepped : ℕ → ℕ
stepped x = (x * 1664525 + 1013904223) % 4294967296

unfoldable pub drawn : ℕ → ℕ → ℕ
drawn x k = x / 65536 % k
