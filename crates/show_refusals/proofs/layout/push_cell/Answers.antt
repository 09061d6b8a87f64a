use Rattle.std.proofs.Common.{◌^◌, ◌-◌, ℕ, List, [], ◌∷◌, Option, Some, option_map, OnOk, false, arith, subst, sym}
use Rattle.std.specs.Fmt.{◌++?◌, AppendsText, format_spec, padded_integral, styled_digits_output}
use Rattle.std.specs.String.{string_bytes}
use Rattle.show_refusals.proofs.Cells.{tab_put, plain_put, coded_put}
use Rattle.show_refusals.proofs.layout.push_cell.Goals as goal

pub returns-then-byte-eq9 : goal.returns-then-byte-eq9
returns-then-byte-eq9 c =
    tab_put c.push_times.result (string_bytes c.args.text.now) (string_bytes c.push_times.new.text) c.len.result
    c.args.byte (omega (arith, c.len.ensures, c.args.text.now.bytes.ok.0)) c.if-byte-eq9.true c.push_times.ensures

pub returns-then-is_printable : goal.returns-then-is_printable
returns-then-is_printable c =
    plain_put c.push.result (string_bytes c.args.text.now) (string_bytes c.push.new.self) _ c.args.byte
    c.if-byte-eq9.false (sym c.if-is_printable.ensures) c.push.ensures.ascii c.push.ensures.bytes

pub returns : goal.returns
returns c =
    let old = string_bytes c.args.text.now in
    let new = string_bytes c.write.new.self in
    let laid = subst (λ s. OnOk c.write.result
    (AppendsText old new (Some (92 ∷ 120 ∷ []) ++? styled_digits_output c.in_radix.result s))) c.laid_out.ensures
    c.write.ensures.bytes in
    let written = subst (λ (o : Option (List ℕ)). OnOk c.write.result
    (AppendsText old new (Some (92 ∷ 120 ∷ []) ++? option_map
    (padded_integral (format_spec 32 0 4 2 (2 ^ 64 - 1)) false []) o))) c.in_radix.ensures laid in
    coded_put c.write.result old new c.args.byte c.ranges.byte.fits c.if-byte-eq9.false (sym c.if-is_printable.ensures)
    written
