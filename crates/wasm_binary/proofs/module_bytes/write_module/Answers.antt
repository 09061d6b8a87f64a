use Rattle.wasm_binary.proofs.LawsModule.{is_only_encoding}
use Rattle.wasm_binary.proofs.module_bytes.write_module.Goals as goal

pub returns-clause-only : goal.returns-clause-only
returns-clause-only c = is_only_encoding c.args.tree.now c.write_whole.result c.write_whole.ensures.written
    c.write_whole.ensures.fits
