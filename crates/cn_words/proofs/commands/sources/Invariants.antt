use Rattle.std.specs.Prelude.{◌≡◌, map, take}
use Rattle.cn_words.specs.GivenCommands.{path_in, path_of}
use Rattle.cn_words.proofs.commands.sources.Given as goal

abbrev pub invariant-loop-word : goal.invariant-loop-word
invariant-loop-word l = map path_of l.sources.items ≡ map (λ w. path_in w.now) (take l.word-index l.words)
