-- Any two results that a public function's promise allows on the same arguments are equal. Made by tests/results.py.
use Rattle.words.proofs.Determined.{same, Determined, DeterminedHeld}
use Rattle.exports.proofs.single.jampreso_sha1.Reads as jampreso-sha1
use Rattle.exports.proofs.single.jampreso_name.Reads as jampreso-name
use Rattle.exports.proofs.single.jampreso_chunk.Reads as jampreso-chunk
use Rattle.exports.proofs.single.jampreso_entry.Reads as jampreso-entry
use Rattle.exports.proofs.single.jampreso_trailer.Reads as jampreso-trailer
use Rattle.exports.proofs.single.jampreso_file_open.Reads as jampreso-file-open
use Rattle.exports.proofs.single.jampreso_file_id.Reads as jampreso-file-id
use Rattle.exports.proofs.single.jampreso_file_base.Reads as jampreso-file-base
use Rattle.exports.proofs.single.jampreso_file_tree.Reads as jampreso-file-tree
use Rattle.exports.proofs.single.jampreso_file_checksum.Reads as jampreso-file-checksum
use Rattle.exports.proofs.single.jampreso_file_verify_checksum.Reads as jampreso-file-verify-checksum
use Rattle.exports.proofs.single.jampreso_file_lookup.Reads as jampreso-file-lookup
use Rattle.exports.proofs.single.jampreso_file_commit.Reads as jampreso-file-commit
use Rattle.exports.proofs.single.jampreso_file_step.Reads as jampreso-file-step
use Rattle.exports.proofs.single.jampreso_file_word.Reads as jampreso-file-word
use Rattle.exports.proofs.single.jampreso_file_date.Reads as jampreso-file-date
use Rattle.exports.proofs.single.jampreso_file_entry.Reads as jampreso-file-entry
use Rattle.exports.proofs.single.jampreso_file_count.Reads as jampreso-file-count
use Rattle.exports.proofs.single.jampreso_file_list.Reads as jampreso-file-list
use Rattle.exports.proofs.single.jampreso_file_traverse.Reads as jampreso-file-traverse
use Rattle.exports.proofs.whole.jampreso_open.Reads as jampreso-open
use Rattle.exports.proofs.whole.jampreso_locate.Reads as jampreso-locate
use Rattle.exports.proofs.whole.jampreso_id.Reads as jampreso-id
use Rattle.exports.proofs.whole.jampreso_tree.Reads as jampreso-tree
use Rattle.exports.proofs.whole.jampreso_find.Reads as jampreso-find
use Rattle.exports.proofs.whole.jampreso_commit.Reads as jampreso-commit
use Rattle.exports.proofs.whole.jampreso_step.Reads as jampreso-step
use Rattle.exports.proofs.whole.jampreso_door.Reads as jampreso-door
use Rattle.exports.proofs.whole.jampreso_list.Reads as jampreso-list
use Rattle.exports.proofs.whole.jampreso_verify.Reads as jampreso-verify

pub jampreso_sha1_determined : Determined jampreso-sha1.Learnt
jampreso_sha1_determined κs a y z d e p q = same p q

pub jampreso_name_determined : Determined jampreso-name.Learnt
jampreso_name_determined κs a y z d e p q = same p q

pub jampreso_chunk_determined : Determined jampreso-chunk.Learnt
jampreso_chunk_determined κs a y z d e p q = same p q

pub jampreso_entry_determined : Determined jampreso-entry.Learnt
jampreso_entry_determined κs a y z d e p q = same p q

pub jampreso_trailer_determined : Determined jampreso-trailer.Learnt
jampreso_trailer_determined κs a y z d e p q = same p q

pub jampreso_file_open_determined : Determined jampreso-file-open.Learnt
jampreso_file_open_determined κs a y z d e p q = same p.0 q.0

pub jampreso_file_id_determined : Determined jampreso-file-id.Learnt
jampreso_file_id_determined κs a y z d e p q = same p q

pub jampreso_file_base_determined : Determined jampreso-file-base.Learnt
jampreso_file_base_determined κs a y z d e p q = same p q

pub jampreso_file_tree_determined : Determined jampreso-file-tree.Learnt
jampreso_file_tree_determined κs a y z d e p q = same p q

pub jampreso_file_checksum_determined : Determined jampreso-file-checksum.Learnt
jampreso_file_checksum_determined κs a y z d e p q = same p q

pub jampreso_file_verify_checksum_determined : Determined jampreso-file-verify-checksum.Learnt
jampreso_file_verify_checksum_determined κs a y z d e p q = same p q

pub jampreso_file_lookup_determined : Determined jampreso-file-lookup.Learnt
jampreso_file_lookup_determined κs a y z d e p q = same p q

pub jampreso_file_commit_determined : Determined jampreso-file-commit.Learnt
jampreso_file_commit_determined κs a y z d e p q = same p q

pub jampreso_file_step_determined : Determined jampreso-file-step.Learnt
jampreso_file_step_determined κs a y z d e p q = same p.0 q.0

pub jampreso_file_word_determined : Determined jampreso-file-word.Learnt
jampreso_file_word_determined κs a y z d e p q = same p q

pub jampreso_file_date_determined : Determined jampreso-file-date.Learnt
jampreso_file_date_determined κs a y z d e p q = same p q

pub jampreso_file_entry_determined : Determined jampreso-file-entry.Learnt
jampreso_file_entry_determined κs a y z d e p q = same p q

pub jampreso_file_count_determined : Determined jampreso-file-count.Learnt
jampreso_file_count_determined κs a y z d e p q = same p q

pub jampreso_file_list_determined : Determined jampreso-file-list.Learnt
jampreso_file_list_determined κs a y z d e p q = same p.0 q.0

pub jampreso_file_list_held : DeterminedHeld (λ κs e. e.1.1.1.0.now) jampreso-file-list.Learnt
jampreso_file_list_held κs a y z d e p q = same p.1 q.1

pub jampreso_file_traverse_determined : Determined jampreso-file-traverse.Learnt
jampreso_file_traverse_determined κs a y z d e p q = same p q

pub jampreso_open_determined : Determined jampreso-open.Learnt
jampreso_open_determined κs a y z d e p q = same p q

pub jampreso_locate_determined : Determined jampreso-locate.Learnt
jampreso_locate_determined κs a y z d e p q = same p q

pub jampreso_id_determined : Determined jampreso-id.Learnt
jampreso_id_determined κs a y z d e p q = same p q

pub jampreso_tree_determined : Determined jampreso-tree.Learnt
jampreso_tree_determined κs a y z d e p q = same p q

pub jampreso_find_determined : Determined jampreso-find.Learnt
jampreso_find_determined κs a y z d e p q = same p q

pub jampreso_commit_determined : Determined jampreso-commit.Learnt
jampreso_commit_determined κs a y z d e p q = same p q

pub jampreso_step_determined : Determined jampreso-step.Learnt
jampreso_step_determined κs a y z d e p q = same p.0 q.0

pub jampreso_door_determined : Determined jampreso-door.Learnt
jampreso_door_determined κs a y z d e p q = same p.0 q.0

pub jampreso_list_determined : Determined jampreso-list.Learnt
jampreso_list_determined κs a y z d e p q = same p.0 q.0

pub jampreso_list_held : DeterminedHeld (λ κs e. e.1.1.1.0.now) jampreso-list.Learnt
jampreso_list_held κs a y z d e p q = same p.1 q.1

pub jampreso_verify_determined : Determined jampreso-verify.Learnt
jampreso_verify_determined κs a y z d e p q = same p q
