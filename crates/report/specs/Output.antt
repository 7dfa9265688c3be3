-- What the program prints: document 01, from "The program prints one line" to "Any other input prints `unreadable`".
use Rattle.std.specs.Prelude.{ℕ, zero, suc, ◌+◌, Bool, ◌&&◌, List, [], ◌∷◌, ◌++◌, ltb, leb, eqb, length, get_or}
use Rattle.std.specs.Prelude.{take, drop, Option, Some, None, Result, Ok, Err}
use Prim.Native.Char.{code}
use Prim.Native.String.{String, [] as none, ◌∷◌ as ◌then◌}
use Rattle.words.specs.First.{◌if◌else◌}
use Rattle.words.specs.Big.{be}
use Rattle.text.specs.Text.{dec}
use Rattle.audit.specs.declared.Length.{Length}
use Rattle.audit.specs.declared.Length.TheVariants.{Steps, Cyclic}
use Rattle.types.specs.Refusals.{number_of}
use Rattle.types.specs.declared.refusal.Refusal.{Refusal}
use Rattle.audit.specs.declared.Summary.{Summary}
use Rattle.audit.specs.declared.Verification.{Verification}
use Rattle.audit.specs.Rules.{verification}

-- ── words and lines ──

-- the ASCII codes of a text
abbrev pub ascii : String → List ℕ
ascii none = []
ascii (c then s) = code c ∷ ascii s

-- the words behind the first one, each after one space, and the line feed
unfoldable pub others : List (List ℕ) → List ℕ
others [] = ascii "\n"
others (w ∷ ws) = (ascii " " ++ w) ++ others ws

unfoldable pub line : String → List (List ℕ) → List ℕ
line s ws = ascii s ++ others ws

-- ── the answer ──

-- how long the longest run of parent steps is
unfoldable pub length_word : Length → List ℕ
length_word (Steps n) = dec n
length_word Cyclic = ascii "cyclic"

-- how many parents a key stands for
unfoldable pub key_word : ℕ → List ℕ
key_word k = ascii "more" if eqb k 65 else dec k

-- the line of a count, if it is above 0
unfoldable pub count_line : ℕ → ℕ → List ℕ
count_line k n = line "parents" (key_word k ∷ dec n ∷ []) if ltb 0 n else []

-- the lines of the keys below k, rising
unfoldable pub count_lines : List ℕ → ℕ → List ℕ
count_lines counts zero = []
count_lines counts (suc k) = count_lines counts k ++ count_line k (get_or counts k 0)

-- the lines of an answer
unfoldable pub answer_lines : Result Summary Refusal → List ℕ → List ℕ
answer_lines (Ok s) counts = line "accepted" (dec s.commits ∷ length_word s.length ∷ []) ++ count_lines counts 66
answer_lines (Err r) counts = line "refused" (dec (number_of r.reason) ∷ dec r.file ∷ dec r.place ∷ [])

-- ── the input ──

-- the list's length in 4 bytes, the list, then the chain
abbrev pub size_of : List ℕ → ℕ
size_of input = be 4 input 0

abbrev pub list_of : List ℕ → List ℕ
list_of input = take (size_of input) (drop 4 input)

abbrev pub chain_of : List ℕ → List ℕ
chain_of input = drop (4 + size_of input) input

-- the length is there, the list has at most 12,288 bytes and is not cut short, and the chain has at most 49,152
unfoldable pub readable : List ℕ → Bool
readable input =
    leb 4 (length input)
    && leb (size_of input) 12288
    && leb (4 + size_of input) (length input)
    && leb (length (chain_of input)) 49152

-- where the chain starts in an input that is read
unfoldable pub chain_at : List ℕ → Option ℕ
chain_at input = Some (4 + size_of input) if readable input else None

abbrev pub verified : List ℕ → Verification
verified input = verification 32 (chain_of input) (list_of input)

unfoldable pub output_of : List ℕ → List ℕ
output_of input =
    answer_lines (verified input).verdict (verified input).counts if readable input else
    line "unreadable" []
