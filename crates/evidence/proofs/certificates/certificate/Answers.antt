use Rattle.forms.specs.MessagesLaws.{full-kind}
use Rattle.evidence.specs.MakingLaws.{sound-taken, readable, sized, certificate_is}
use Rattle.evidence.proofs.certificates.certificate.Goals as goal

pub entry_set-requires : goal.entry_set-requires
entry_set-requires c = let sound = c.requires.2 in (c.requires.0, c.requires.1, full-kind _ sound.full, sound.known)

pub certificate_value-requires : goal.certificate_value-requires
certificate_value-requires c = sound-taken _ _ c.requires.2

pub returns : goal.returns
returns c =
    let sound = c.requires.2 in
    (readable _ _ sound c.entry_set.ensures, sized _ _ sound c.entry_set.ensures, certificate_is _ _ sound c.entry_set.ensures c.certificate_value.ensures)
