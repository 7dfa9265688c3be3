-- What an answer says in the rules' own terms: the number of a refusal, 0 where nothing is refused, its file and its place; and the values of
-- its case. A refusal has no values, any other case has one at least. Each public enum has its own image beside it (`specs/Said.antt`).
use Rattle.std.specs.Prelude.{ℕ, List, [], ◌∷◌, ◌≡◌}
use Rattle.types.specs.Refusals.{number_of}
use Rattle.types.specs.declared.refusal.Refusal.{Refusal}

pub record Said : Type 0 where
  pub number : ℕ
  pub file : ℕ
  pub place : ℕ
  pub values : List ℕ

-- a refusal, and any other case
abbrev pub refuses : Refusal → Said
refuses r = record { number = number_of r.reason; file = r.file; place = r.place; values = [] }

abbrev pub says : ℕ → List ℕ → Said
says v vs = record { number = 0; file = 0; place = 0; values = v ∷ vs }

-- the same with values in front, for an answer that is handed back beside them
abbrev pub beside : ℕ → List ℕ → Said → Said
beside v vs s = record { number = s.number; file = s.file; place = s.place; values = v ∷ vs }

-- r is the answer d, and it says d's number, file, place and values
pub record Answers {A : Type 0} (said : A → Said) (r d : A) : Type 0 where
  pub is : r ≡ d
  pub says : said r ≡ said d
