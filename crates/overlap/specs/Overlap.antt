-- The overlap list: document 01's third question, for every byte string and every lent buffer. "The count comes back. Later bytes of the buffer are
-- untouched."
use Rattle.std.specs.Prelude.{Result, Ok, Err, ℕ, List, ◌++◌, length, drop}
use Rattle.scene.specs.declared.Refusal.{Refusal}
use Rattle.scene.specs.Read.{number_of, CheckedScene}
use Rattle.overlap.specs.Rules.{list_of, check_list}

-- the count, or the refusal
abbrev pub OverlapAnswer : Type 0
OverlapAnswer = Result ℕ Refusal

abbrev pub answer : List ℕ → CheckedScene → OverlapAnswer
answer s (Err r) = Err r
answer s (Ok sc) = Ok (length (list_of s sc))

-- the number and the values of every answer
pub record OverlapValues : Type 0 where
  pub number : ℕ
  pub place : ℕ
  pub count : ℕ

abbrev pub overlap_values : OverlapAnswer → OverlapValues
overlap_values (Err r) = record { number = number_of r.reason; place = r.place; count = 0 }
overlap_values (Ok n) = record { number = 0; place = 0; count = n }

-- what the lent buffer then holds

abbrev pub lent_after : List ℕ → CheckedScene → List ℕ → List ℕ
lent_after s (Err r) buffer = buffer
lent_after s (Ok sc) buffer = list_of s sc ++ drop (length (list_of s sc)) buffer

abbrev pub overlap_of : List ℕ → List ℕ → OverlapAnswer
overlap_of s buffer = answer s (check_list s (length buffer))

abbrev pub buffer_after : List ℕ → List ℕ → List ℕ
buffer_after s buffer = lent_after s (check_list s (length buffer)) buffer
