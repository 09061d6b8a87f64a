use Rattle.m2_pool.proofs.run.fn.all_work.map_vec+Fn.call.Goals as goal

-- what the closure asks is what the call was asked: that the shared types may cross threads, and the facts on the
-- worker
pub map_vec-requires : goal.map_vec-requires
map_vec-requires g c =
    let asked = c.requires.1.1.1 in
    let cross = asked.1 in
    (cross.0, (cross.1, (cross.2, (cross.3, (cross.4, asked.0)))))
