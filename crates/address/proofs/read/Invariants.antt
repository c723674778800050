use Rattle.std.proofs.Common.{◌≡◌, drop}
use Rattle.address.specs.Address.{number_from}
use Rattle.address.proofs.read.Given as goal

-- the number so far with the characters that are left gives the address's
abbrev pub invariant-loop-character : goal.invariant-loop-character
invariant-loop-character l = number_from l.n (drop l.character-index l.address) ≡ number_from 0 l.address
