mod Handing
mod HandingNumber
mod Lending
