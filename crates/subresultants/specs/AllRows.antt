-- All remainder rows, and how they end.
use Rattle.std.specs.Prelude.{List}
use Rattle.polynomials.specs.Polynomials.{Polynomial}
use Rattle.division_rules.specs.Rows.{Row}

-- row 0 to row k, and the leads of row 1 to row k
pub record RemainderRows : Type 0 where
  pub rows : List (Row Polynomial)
  pub leads : List Polynomial

pub data AllRemainders : Type 0 where
  -- the last row has degree 0
  Coprime : RemainderRows → AllRemainders
  -- the row that would follow, which comes second, has the first entry 0
  Common : RemainderRows → Row Polynomial → AllRemainders
  -- a product doesn't fit the width
  TooWide : AllRemainders
