use Rattle.layout_storage.proofs.Placed.{frame_in_module, frame_in_local}
use Rattle.layout_storage.proofs.layout.Layout.frame.Goals as goal

pub returns-in-Module : goal.returns-in-Module
returns-in-Module c = frame_in_module c.args.module_body.now c.args.self.now c.requires.layout c.requires.fits
    c.args.which c.in-Module.number c.in-Module.is _ c.get.ensures.value c.end_of.result c.end_of.ensures

pub returns-in-Local : goal.returns-in-Local
returns-in-Local c = frame_in_local c.args.module_body.now c.args.self.now c.requires.layout c.requires.fits
    c.args.which c.in-Local.number c.in-Local.is _ c.get-in-Local.ensures.value c.end_of-in-Local.result
    c.end_of-in-Local.ensures
