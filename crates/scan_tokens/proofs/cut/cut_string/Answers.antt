use Rattle.std.proofs.Common.{◌≡◌, ◌≢◌, ◌+◌, length, drop, get_or, ◌⊎◌, Some, inl, inr, refl}
use Rattle.m2_tree.specs.declared.token.Lexeme.TheVariants as lexeme
use Rattle.scan_tokens.proofs.Fronts.{string_open, string_is, string_stops, string_taken}
use Rattle.scan_tokens.proofs.cut.cut_string.Goals as goal
use Rattle.scan_tokens.proofs.cut.cut_string.Goals.{then-len-behind-via-then-len-behind, then-len-behind-via-else-len-behind+then-behind-len}

pub returns-then-len-behind-clause-refused : goal.returns-then-len-behind-clause-refused
returns-then-len-behind-clause-refused c =
    let text = c.args.cut.now.rest.now in
    let behind = c.split_at.result.1.now in
    let len = c.inside_len-len.result in
    let why : (len ≡ length behind) ⊎ (get_or behind len 0 ≢ get_or text 0 0) =
    elim c.then-len-behind.branch [
      | then-len-behind-via-then-len-behind w ↦ inl w.if-len-behind.true
      | then-len-behind-via-else-len-behind+then-behind-len w ↦ inr w.if-behind-len.true
    ] in
    string_open text behind (get_or text 0 0) len c.args.cut.now.pos c.scan_refusal.result c.requires.begins
    c.split_at.ensures.back refl c.inside_len-len.ensures.value why c.scan_refusal.ensures

pub returns-then-good-len-clause-refused : goal.returns-then-good-len-clause-refused
returns-then-good-len-clause-refused c =
    let text = c.args.cut.now.rest.now in
    let behind = c.split_at.result.1.now in
    let inside = c.split_at-2.result.0.now in
    let len = c.inside_len-len.result in
    let quote = get_or text 0 0 in
    let rest = drop (len + 2) text in
    let s = string_is text behind inside rest quote len c.requires.begins c.split_at.ensures.back refl
    c.inside_len-len.ensures.value c.if-len-behind.false c.if-behind-len.false c.split_at-2.ensures.front refl in
    string_stops text inside rest quote len c.printable_len-good.result c.args.cut.now.pos c.right.result
    c.scan_refusal-then-good-len.result s c.printable_len-good.ensures.value c.if-good-len.true
    c.right.ensures.line c.right.ensures.col c.scan_refusal-then-good-len.ensures

pub returns-clause-taken : goal.returns-clause-taken
returns-clause-taken c =
    let text = c.args.cut.now.rest.now in
    let behind = c.split_at.result.1.now in
    let inside = c.split_at-2.result.0.now in
    let len = c.inside_len-len.result in
    let quote = get_or text 0 0 in
    let rest = c.split_at-3.result.1.now in
    let s = string_is text behind inside rest quote len c.requires.begins c.split_at.ensures.back refl
    c.inside_len-len.ensures.value c.if-len-behind.false c.if-behind-len.false c.split_at-2.ensures.front
    c.split_at-3.ensures.back in (
      Some (lexeme.Text c.in_ok-bytes.bytes),
      string_taken text inside rest quote len c.printable_len-good.result c.args.cut.now.pos c.right-2.result
          c.in_ok-bytes.bytes s c.printable_len-good.ensures.value c.if-good-len.false c.in_ok-bytes.ensures
          c.right-2.ensures.line c.right-2.ensures.col,
      c.in_ok-put.ensures,
    )
