-- Certificates as the phases take them.
use Rattle.std.specs.Prelude.{List, ℕ}
use Rattle.protocol.specs.Certificate as protocol
use Rattle.store.specs.Sources.{bytes_of, Readable, certificate_from}
use Rattle.store.specs.declared.sources.Source.{Source}
use Rattle.store.specs.declared.sources.Certificate.{Certificate}

-- a certificate that is heard: its signatures stand in a message or in the store, and can be read there
abbrev pub Heard : ℕ → Source → List ℕ → List ℕ → Type 0
Heard n source store m = Readable n source (bytes_of source.place store m)

abbrev pub heard : ℕ → Source → List ℕ → List ℕ → List ℕ → protocol.Certificate
heard n source value store m = certificate_from n source value (bytes_of source.place store m)

-- the certificate that one to read stands for, where it is heard
abbrev pub heard_of : ℕ → Certificate → List ℕ → protocol.Certificate
heard_of n c store = heard n c.source c.value store c.bytes.now
