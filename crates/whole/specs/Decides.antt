-- A test that decides a proposition: it says yes exactly where the proposition holds.
use Rattle.std.specs.Prelude.{Bool, T}

pub record Decides (P : Type 0) (r : Bool) : Type 0 where
  pub sound : T r → P
  pub complete : P → T r
