use Rattle.std.proofs.Common.{◌≡◌, ◌∙◌, ◌+◌, ◌-◌, ◌++◌, ℕ, List, ap, append_assoc, arith, drop, drop-drop, length, sym, take}
use Rattle.std.proofs.lemmas.List.Edits.{sets-eq}
use borrow.Rule.Slice.PartMut.{post_of}
use Rattle.clauses.proofs.writing.put_bytes.Goals as goal

pub returns : goal.returns
returns c =
    let text = c.args.text.now in
    let at = c.args.at in
    let bytes = c.args.bytes.now in
    let size : at + length bytes - at ≡ length bytes = omega arith in
    let rest : post_of at (at + length bytes - at) text ≡ drop (at + length bytes) text = rw size (drop-drop (length bytes) at text) in
    record {
      content = rw c.copy_from_slice.ensures.after (ap (λ (l : List ℕ). take at text ++ (bytes ++ l)) rest ∙ sym (append_assoc (take at text) bytes (drop (at + length bytes) text)) ∙ sym (sets-eq bytes text at c.requires));
      end = omega arith;
    }
