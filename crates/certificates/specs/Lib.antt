-- Certificates as they are heard (`Certificates`), and the laws of the code that replies, holds and blames (`CertificatesLaws`).
pub mod Certificates
pub mod CertificatesLaws
