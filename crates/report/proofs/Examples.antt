-- The texts that document 01 gives, as the definitions say them.
use Rattle.std.proofs.Common.{[], ◌∷◌, ◌++◌, ◌≡◌, refl, replicate, Ok, Err}
use Rattle.words.specs.First.{◌if◌else◌}
use Rattle.text.specs.Text.{digits, dec}
use Rattle.audit.specs.declared.Length.TheVariants.{Steps, Cyclic}
use Rattle.types.specs.declared.refusal.Reason.TheVariants as Reason
use Rattle.report.specs.Output.{ascii, others, line, length_word, key_word, count_line, count_lines, answer_lines, readable, output_of}

-- a root, its child, and a merge of both
merge : answer_lines (Ok (record { commits = 3; length = Steps 2 })) (1 ∷ 1 ∷ 1 ∷ replicate 63 0)
    ≡ ascii "accepted 3 2\nparents 0 1\nparents 1 1\nparents 2 1\n"
unfolding answer_lines length_word count_lines count_line key_word line others ◌if◌else◌ dec digits
merge = refl

-- no length, and the counts of keys 64 and 65
cyclic : answer_lines (Ok (record { commits = 5; length = Cyclic })) (replicate 64 0 ++ (2 ∷ 3 ∷ []))
    ≡ ascii "accepted 5 cyclic\nparents 64 2\nparents more 3\n"
unfolding answer_lines length_word count_lines count_line key_word line others ◌if◌else◌ dec digits
cyclic = refl

refused : answer_lines (Err (record { reason = Reason.Checksum; file = 0; place = 0 })) (replicate 66 0) ≡ ascii "refused 62 0 0\n"
unfolding answer_lines line others ◌if◌else◌ dec digits
refused = refl

empty : output_of [] ≡ ascii "unreadable\n"
unfolding output_of readable line others ◌if◌else◌
empty = refl
