use Rattle.std.proofs.Common.{◌≡◌, List, ℕ, [], ◌++◌, ap, ◌∙◌, rules}
use Rattle.hexfile.specs.Spelling.{rows_text, end_text, hex_text_of}
use Rattle.hexfile.proofs.Rows.{text_short}
use Rattle.hexfile.proofs.BackRows.{text_back}
use Rattle.hexfile.proofs.writing.write_hex.Goals as goal

-- the lines of all rows, and the end
text_is : (bytes first rows whole : List ℕ) → first ≡ [] → rows ≡ first ++ rows_text bytes → whole ≡ rows ++ end_text
    → whole ≡ hex_text_of bytes
unfolding hex_text_of
text_is bytes first rows whole empty all is = is ∙ ap (λ t. t ++ end_text) all ∙ ap (λ t. (t ++ rows_text bytes) ++ end_text) empty

pub returns : goal.returns
returns c =
    let bytes = c.args.image.now.bytes in
    let text = text_is bytes c.new-text.result.items c.push_rows.new.text.items c.extend_from_slice.new.self.items
    c.new-text.ensures.items c.in_ok-push_rows.ensures.rows c.in_ok-extend_from_slice.ensures.items in
    record {
      text = text;
      back = rw text (text_back bytes (search rules) c.in_ok-push_rows.ensures.bytes);
      within = rw text (text_short bytes);
    }
