-- What contracts see of a source and of a sink.
use Rattle.std.specs.Prelude.{ℕ, List, Option}

-- a source in memory: the bytes left, the most a call gives, which calls fail, calls and faults
pub record MemSourceState : Type 0 where
  pub left : List ℕ
  pub most : ℕ
  pub fails : List ℕ
  pub calls : ℕ
  pub faults : ℕ

-- a sink in memory: the bytes taken, the most in all and a call, which calls fail, calls and faults
pub record MemSinkState : Type 0 where
  pub taken : List ℕ
  pub room : ℕ
  pub most : ℕ
  pub fails : List ℕ
  pub calls : ℕ
  pub faults : ℕ

-- a source over a reader: the bytes left, where the reader tells them, and the faults so far
pub record StdSourceState : Type 0 where
  pub left : Option (List ℕ)
  pub faults : ℕ

-- a sink over a writer: the bytes taken, where the writer tells them, and the faults so far
pub record StdSinkState : Type 0 where
  pub taken : Option (List ℕ)
  pub faults : ℕ
