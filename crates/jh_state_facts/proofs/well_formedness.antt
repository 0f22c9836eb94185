pub mod FactSteps
mod ClassSteps
pub mod FormedSteps
