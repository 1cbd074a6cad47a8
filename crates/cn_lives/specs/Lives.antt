-- The world that lives in memory are.
use Rattle.cn_lives.specs.Steps.{World}
use Rattle.cn_lives.specs.declared.lives.Lives.{Lives}

-- the local state of each process, what each register holds, the state of each object, and the
-- input of each process
abbrev pub world_of : Lives → World
world_of l = record {
  locals = l.locals.items;
  registers = l.registers.items;
  objects = l.objects.items;
  inputs = l.inputs.items;
}
