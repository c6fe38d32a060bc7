-- The digest of "abc", by computation from the definitions (FIPS 180-4's own example).
use Rattle.std.specs.Prelude.{◌≡◌, refl, [], ◌∷◌}
use Rattle.octets.specs.Octets.{be, part, words, bytes}
use Rattle.fips180.specs.Rule.{divided, prime, primes_below, primes, largest_up_to, or_next, root, fraction}
use Rattle.fips180.specs.Constants.{constants, initial}
use Rattle.fips180.specs.Fips.{add, complement, shr, rotr, ch, maj, big_sigma0, big_sigma1, small_sigma0, small_sigma1, scheduled, schedule, temp1, temp2, round, rounds, sums, compress, padding, pad, hashed, absorbed, sha256}

pub sha256_of_abc : sha256 (0x61 ∷ 0x62 ∷ 0x63 ∷ [])
    ≡ bytes (0xba7816bf ∷ 0x8f01cfea ∷ 0x414140de ∷ 0x5dae2223 ∷ 0xb00361a3 ∷ 0x96177a9c ∷ 0xb410ff61 ∷ 0xf20015ad ∷ [])
unfolding divided prime primes_below primes largest_up_to or_next root fraction be part words bytes constants initial add complement shr rotr ch maj big_sigma0 big_sigma1 small_sigma0 small_sigma1 scheduled schedule temp1 temp2 round rounds sums compress padding pad hashed absorbed sha256
sha256_of_abc = refl
