-- What is counted of statements, in words of 64 bits.
use Rattle.std.specs.Prelude.{ℕ, ◌-◌, ◌^◌, min}
use Rattle.guarded.specs.Counts.{Weights, each_ext, each_store}
use Rattle.drill_lines.specs.declared.statements.Counted.{Counted}
use Rattle.drill_lines.specs.declared.statements.Counted.TheVariants.{Calls, Stores}

-- calls, or stores, count one each
abbrev pub weights_of : Counted → Weights
weights_of Calls = each_ext
weights_of Stores = each_store

-- a number, or 2^64 - 1 where it is greater
abbrev pub at_most : ℕ → ℕ
at_most n = min n (2 ^ 64 - 1)
